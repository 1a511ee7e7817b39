-- `past_of`: by the direction.
use borrow.Author.Rules.{rules}
use Rattle.explorer_rides.proofs.Scanning.{past_departure, past_arrival}
use Rattle.explorer_rides.proofs.route.past_of.Goals as goal

pub returns-in-Departure : goal.returns-in-Departure
returns-in-Departure c = search (rules, past_departure)

pub returns-in-Arrival : goal.returns-in-Arrival
returns-in-Arrival c = search (rules, past_arrival)
