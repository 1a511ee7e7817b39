-- `reaches_at`: by the direction.
use borrow.Author.Rules.{rules}
use Rattle.explorer_rides.proofs.Times.{reach_departure, reach_arrival}
use Rattle.explorer_rides.proofs.seat.reaches_at.Goals as goal

pub returns-in-Departure : goal.returns-in-Departure
returns-in-Departure c = search (rules, reach_departure)

pub returns-in-Arrival : goal.returns-in-Arrival
returns-in-Arrival c = search (rules, reach_arrival)
