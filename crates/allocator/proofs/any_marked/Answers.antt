-- `allocator::any_marked` meets its contract: a flag is set where a first one is found.
-- Assumes nothing.
use borrow.Author.Rules.{rules}
use Rattle.allocator.proofs.Visited.{any_some}
use Rattle.allocator.proofs.any_marked.Goals as goal

pub returns : goal.returns
returns c = search (rules, any_some)
