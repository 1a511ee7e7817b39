-- `catches`: the label against the trip aboard.
use borrow.Author.Rules.{rules}
use Rattle.explorer_rides.proofs.Seats.{times_in}
use Rattle.explorer_rides.proofs.Boarding.{catches_absent, catches_on}
use Rattle.explorer_rides.proofs.position.catches.Goals as goal

pub returns-then-label-eq0 : goal.returns-then-label-eq0
returns-then-label-eq0 c = search (rules, catches_absent)

pub leaves_at-t-requires-clause-p_bound : goal.leaves_at-t-requires-clause-p_bound
leaves_at-t-requires-clause-p_bound c = search (rules, times_in)

pub returns : goal.returns
returns c = search (rules, catches_on)
