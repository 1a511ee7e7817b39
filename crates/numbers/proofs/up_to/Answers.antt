-- `numbers::up_to` meets its contract: two digits, as far as `most`.
-- Assumes nothing.
use mathlib.Core.Path.{◌∙◌}
use borrow.Author.Rules.{rules}
use Rattle.numbers.proofs.Clocks.{first_none, second_none, too_many, two_read}
use Rattle.numbers.proofs.up_to.Goals as goal

pub returns-in_err-digit-clause-value : goal.returns-in_err-digit-clause-value
returns-in_err-digit-clause-value c = search (rules, first_none)

pub returns-in_err-v-clause-value : goal.returns-in_err-v-clause-value
returns-in_err-v-clause-value c =
    c.from_residual-in_err-v.ensures
    ∙ second_none _ _ _ c.in_ok-digit.ensures.value c.in_ok-digit.ensures.below_ten c.in_err-v.ensures.value

pub returns-then-v-most-clause-value : goal.returns-then-v-most-clause-value
returns-then-v-most-clause-value c = two_read _ _ _ c.in_ok-digit.ensures.value c.in_ok-digit.ensures.below_ten c.in_ok-v.ensures.value c.in_ok-v.ensures.below_ten (search rules) c.if-v-most.true

pub returns-else-v-most-clause-value : goal.returns-else-v-most-clause-value
returns-else-v-most-clause-value c = too_many _ _ _ c.in_ok-digit.ensures.value c.in_ok-digit.ensures.below_ten c.in_ok-v.ensures.value c.in_ok-v.ensures.below_ten (search rules) c.if-v-most.false
