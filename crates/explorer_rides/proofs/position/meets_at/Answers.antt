-- `meets_at`: by the direction.
use borrow.Author.Rules.{rules}
use Rattle.explorer_rides.proofs.Boarding.{meets_departure, meets_arrival}
use Rattle.explorer_rides.proofs.position.meets_at.Goals as goal

pub returns-in-Departure : goal.returns-in-Departure
returns-in-Departure c = search (rules, meets_departure)

pub returns-in-Arrival : goal.returns-in-Arrival
returns-in-Arrival c = search (rules, meets_arrival)
