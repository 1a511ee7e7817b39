-- `allocator::leg_of` meets its contract: the leg of each direction.
-- Assumes nothing.
use borrow.Author.Rules.{rules}
use Rattle.allocator.proofs.Tests.{leg_departure, leg_arrival}
use Rattle.allocator.proofs.leg_of.Goals as goal

pub returns-in-Departure : goal.returns-in-Departure
returns-in-Departure c = search (rules, leg_departure)

pub returns-in-Arrival : goal.returns-in-Arrival
returns-in-Arrival c = search (rules, leg_arrival)
