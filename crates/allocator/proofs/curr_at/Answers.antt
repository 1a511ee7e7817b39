-- `allocator::curr_at` meets its contract: the word is that of the section.
-- Assumes nothing.
use borrow.Author.Rules.{rules}
use Rattle.allocator.proofs.Read.{curr_get}
use Rattle.allocator.proofs.curr_at.Goals as goal

pub returns : goal.returns
returns c = search (rules, curr_get)
