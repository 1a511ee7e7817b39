-- `next_of`: by the direction, and against time by whether p is the first position.
use borrow.Author.Rules.{rules}
use Rattle.explorer_rides.proofs.Scanning.{next_departure, next_first, next_arrival}
use Rattle.explorer_rides.proofs.route.next_of.Goals as goal

pub returns-then-p-eq0 : goal.returns-then-p-eq0
returns-then-p-eq0 c = search (rules, next_first)

pub returns-in-Departure : goal.returns-in-Departure
returns-in-Departure c = search (rules, next_departure)

pub returns-else-p-eq0 : goal.returns-else-p-eq0
returns-else-p-eq0 c = search (rules, next_arrival)
