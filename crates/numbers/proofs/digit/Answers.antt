-- `numbers::digit` meets its contract: a byte from 48 to 57 is a digit.
-- Assumes nothing.
use borrow.Author.Rules.{rules}
use Rattle.numbers.proofs.Reading.{digit_is, digit_low, digit_high}
use Rattle.numbers.proofs.digit.Goals as goal

pub returns-in-48-to-57-clause-value : goal.returns-in-48-to-57-clause-value
returns-in-48-to-57-clause-value c = search (rules, digit_is)

pub returns-in_default-clause-value : goal.returns-in_default-clause-value
returns-in_default-clause-value c = search (rules, digit_low, digit_high)

pub returns-in_default-2-clause-value : goal.returns-in_default-2-clause-value
returns-in_default-2-clause-value c = search (rules, digit_low, digit_high)
