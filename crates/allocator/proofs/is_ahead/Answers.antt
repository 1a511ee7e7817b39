-- `allocator::is_ahead` meets its contract: the test of each direction.
-- Assumes nothing.
use borrow.Author.Rules.{rules}
use Rattle.allocator.proofs.Tests.{ahead_departure, ahead_arrival}
use Rattle.allocator.proofs.is_ahead.Goals as goal

pub returns-in-Departure : goal.returns-in-Departure
returns-in-Departure c = search (rules, ahead_departure)

pub returns-in-Arrival : goal.returns-in-Arrival
returns-in-Arrival c = search (rules, ahead_arrival)
