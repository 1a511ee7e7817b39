-- `Workspace::activate` meets its contract: by the direction.
-- Assumes nothing.
use borrow.Author.Rules.{rules}
use Rattle.allocator.proofs.Operated.{activates}
use Rattle.allocator.proofs.Workspace.activate.Goals as goal

pub returns-in-Departure : goal.returns-in-Departure
returns-in-Departure c = record { holds = search (rules, activates); same = search rules }

pub returns-in-Arrival : goal.returns-in-Arrival
returns-in-Arrival c = record { holds = search (rules, activates); same = search rules }
