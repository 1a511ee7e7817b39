-- `allocator::blank_of` meets its contract: by the direction.
-- Assumes nothing.
use borrow.Author.Rules.{rules}
use Rattle.allocator.proofs.Tests.{blank_departure, blank_arrival}
use Rattle.allocator.proofs.blank_of.Goals as goal

pub returns-in-Departure : goal.returns-in-Departure
returns-in-Departure c = search (rules, blank_departure)

pub returns-in-Arrival : goal.returns-in-Arrival
returns-in-Arrival c = search (rules, blank_arrival)
