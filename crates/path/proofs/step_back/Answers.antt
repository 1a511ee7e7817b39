-- `path::step_back` meets its contract: it goes on as `onward` of `model` does.
-- Assumes nothing.
use Rattle.std.proofs.Common.{rules}
use Rattle.path.proofs.Steps.{last_leg, leg_behind}
use Rattle.path.proofs.step_back.Goals as goal

pub returns-in_err-round : goal.returns-in_err-round
returns-in_err-round c = rw c.from_residual.ensures (search (rules, last_leg, c.in_err-round.ensures))

pub returns : goal.returns
returns c = search (rules, leg_behind, c.in_ok-round.ensures)
