-- `numbers::six_digits` meets its contract: three numbers between two colons.
-- Assumes nothing.
use mathlib.Core.Path.{◌∙◌}
use Rattle.csv_text.specs.There.{if_there}
use Rattle.numbers.specs.Clock.{eight_bytes}
use Rattle.numbers.proofs.six_digits.Goals as goal

pub returns-in_err-hours : goal.returns-in_err-hours
unfolding eight_bytes if_there
returns-in_err-hours c = c.from_residual.ensures ∙ rw (← c.in_err-hours.ensures.value)

pub returns-in_err-minutes : goal.returns-in_err-minutes
unfolding eight_bytes if_there
returns-in_err-minutes c = c.from_residual-in_err-minutes.ensures ∙ rw (← c.in_ok-hours.ensures.value, ← c.in_err-minutes.ensures.value)

pub returns-in_err-seconds : goal.returns-in_err-seconds
unfolding eight_bytes if_there
returns-in_err-seconds c = c.from_residual-in_err-seconds.ensures ∙ rw (← c.in_ok-hours.ensures.value, ← c.in_ok-minutes.ensures.value, ← c.in_err-seconds.ensures.value)

pub returns : goal.returns
unfolding eight_bytes if_there
returns c = rw (← c.in_ok-hours.ensures.value, ← c.in_ok-minutes.ensures.value, ← c.in_ok-seconds.ensures.value, c.moment.ensures)
