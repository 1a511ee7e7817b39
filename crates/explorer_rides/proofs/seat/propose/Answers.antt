-- `propose`: the leg is applied.
use borrow.Author.Rules.{rules}
use Rattle.explorer_rides.proofs.Seats.{call_in, times_in}
use Rattle.explorer_rides.proofs.Alighting.{proposed}
use Rattle.explorer_rides.proofs.seat.propose.Goals as goal

pub reaches_at-t-requires-clause-p_bound : goal.reaches_at-t-requires-clause-p_bound
reaches_at-t-requires-clause-p_bound c = search (rules, times_in)

pub apply-requires-clause-stop_lt_stops : goal.apply-requires-clause-stop_lt_stops
apply-requires-clause-stop_lt_stops c = search (rules, call_in)

pub returns : goal.returns
returns c = record { holds = search (rules, proposed); same = c.apply.ensures.same }
