-- `walked_at`: the sum and the difference neither overflow nor fall below 0.
use borrow.Author.Rules.{rules}
use Rattle.explorer_footpaths.proofs.Steps.{walked_departure, walked_arrival, walked_nowhere}
use Rattle.explorer_footpaths.proofs.walked_at.Goals as goal

pub returns-then-span-x : goal.returns-then-span-x
returns-then-span-x c = search (rules, walked_arrival)

pub returns-in-Departure : goal.returns-in-Departure
returns-in-Departure c = search (rules, walked_departure)

pub returns-else-span-x : goal.returns-else-span-x
returns-else-span-x c = search (rules, walked_nowhere)
