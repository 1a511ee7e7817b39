-- `allocator::parent_at` meets its contract: the row is one of the section.
-- Assumes nothing.
use borrow.Author.Rules.{rules}
use Rattle.allocator.proofs.Read.{parent_get}
use Rattle.allocator.proofs.parent_at.Goals as goal

pub returns : goal.returns
returns c = search (rules, parent_get)
