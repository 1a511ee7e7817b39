-- `leaves_at`: by the direction.
use borrow.Author.Rules.{rules}
use Rattle.explorer_rides.proofs.Times.{leave_departure, leave_arrival}
use Rattle.explorer_rides.proofs.seat.leaves_at.Goals as goal

pub returns-in-Departure : goal.returns-in-Departure
returns-in-Departure c = search (rules, leave_departure)

pub returns-in-Arrival : goal.returns-in-Arrival
returns-in-Arrival c = search (rules, leave_arrival)
