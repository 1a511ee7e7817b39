-- `allocator::best_at` meets its contract: the word is that of the section.
-- Assumes nothing.
use borrow.Author.Rules.{rules}
use Rattle.allocator.proofs.Read.{best_get}
use Rattle.allocator.proofs.best_at.Goals as goal

pub returns : goal.returns
returns c = search (rules, best_get)
