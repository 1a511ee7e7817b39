-- `allocator::prev_at` meets its contract: the word is that of the section.
-- Assumes nothing.
use borrow.Author.Rules.{rules}
use Rattle.allocator.proofs.Read.{prev_get}
use Rattle.allocator.proofs.prev_at.Goals as goal

pub returns : goal.returns
returns c = search (rules, prev_get)
