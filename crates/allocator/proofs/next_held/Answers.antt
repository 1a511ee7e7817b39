-- `allocator::next_held` meets its contract: the next mark of the words is the next flag that is set.
-- Assumes nothing.
use borrow.Author.Rules.{rules}
use Rattle.allocator.proofs.Read.{next_hold}
use Rattle.allocator.proofs.next_held.Goals as goal

pub returns : goal.returns
returns c = search (rules, next_hold)
