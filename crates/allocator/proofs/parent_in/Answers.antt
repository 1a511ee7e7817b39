-- `allocator::parent_in` meets its contract: by the kind that the row says.
-- Assumes nothing.
use borrow.Author.Rules.{rules}
use Rattle.allocator.proofs.Read.{read_ride, read_transfer, read_walk, read_none}
use Rattle.allocator.proofs.parent_in.Goals as goal

pub returns-in-1 : goal.returns-in-1
returns-in-1 c = search (rules, read_ride)

pub returns-in-2 : goal.returns-in-2
returns-in-2 c = search (rules, read_transfer)

pub returns-in-3 : goal.returns-in-3
returns-in-3 c = search (rules, read_walk)

pub returns-in_default : goal.returns-in_default
returns-in_default c = search (rules, read_none)
