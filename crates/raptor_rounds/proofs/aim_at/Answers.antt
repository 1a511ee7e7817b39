-- `raptor_rounds::aim_at` meets its contract: one goal: taken where it is strictly better.
use borrow.Author.Rules.{rules}
use Rattle.raptor_rounds.proofs.Targets.{taken_yes, taken_no}
use Rattle.raptor_rounds.proofs.aim_at.Goals as goal

pub returns-then-is_better : goal.returns-then-is_better
returns-then-is_better c = search (rules, taken_yes)

pub returns : goal.returns
returns c = search (rules, taken_no)
