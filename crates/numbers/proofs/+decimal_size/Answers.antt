-- `numbers::decimal_size` meets its contract: one digit more than the tenth part has.
-- Assumes nothing.
use borrow.Author.Rules.{rules}
use Rattle.numbers.proofs.Writing.{size_short, size_long}
use Rattle.numbers.proofs.+decimal_size.Goals as goal

pub returns-then-n-lt10 : goal.returns-then-n-lt10
returns-then-n-lt10 t c = search (rules, size_short)

pub returns-else-n-lt10 : goal.returns-else-n-lt10
returns-else-n-lt10 t c = search (rules, size_long)
