-- `leg_from`: the leg from where the trip was boarded.
use borrow.Author.Rules.{rules}
use Rattle.explorer_rides.proofs.Seats.{seat_room, seat_times}
use Rattle.explorer_rides.proofs.Times.{leg_is}
use Rattle.explorer_rides.proofs.seat.leg_from.Goals as goal

pub bounds-stops-b : goal.bounds-stops-b
bounds-stops-b c = search (rules, seat_room)

pub leaves_at-x-requires-clause-p_bound : goal.leaves_at-x-requires-clause-p_bound
leaves_at-x-requires-clause-p_bound c = search (rules, seat_times)

pub returns : goal.returns
returns c = search (rules, leg_is)
