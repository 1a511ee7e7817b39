-- `find_trip`: the trip that the model catches, in either direction.
use borrow.Author.Rules.{rules}
use Rattle.explorer_rides.proofs.Catching.{place_departure, place_arrival}
use Rattle.explorer_rides.proofs.seat.find_trip.Goals as goal

pub returns-in-Departure : goal.returns-in-Departure
returns-in-Departure c = search (rules, place_departure)

pub returns-in-Arrival : goal.returns-in-Arrival
returns-in-Arrival c = search (rules, place_arrival)
