-- `allocator::is_sooner` meets its contract: by the direction.
-- Assumes nothing.
use borrow.Author.Rules.{rules}
use Rattle.allocator.proofs.Tests.{sooner_departure, sooner_arrival}
use Rattle.allocator.proofs.is_sooner.Goals as goal

pub returns-in-Departure : goal.returns-in-Departure
returns-in-Departure c = search (rules, sooner_departure)

pub returns-in-Arrival : goal.returns-in-Arrival
returns-in-Arrival c = search (rules, sooner_arrival)
