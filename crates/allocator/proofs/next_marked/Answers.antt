-- `allocator::next_marked` meets its contract: the next mark of the words is the next flag that is set.
-- Assumes nothing.
use borrow.Author.Rules.{rules}
use Rattle.allocator.proofs.Read.{next_stop}
use Rattle.allocator.proofs.next_marked.Goals as goal

pub returns : goal.returns
returns c = search (rules, next_stop)
