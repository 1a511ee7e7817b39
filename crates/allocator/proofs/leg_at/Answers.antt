-- `allocator::leg_at` meets its contract: five words of the row.
-- Assumes nothing.
use borrow.Author.Rules.{rules}
use Rattle.allocator.proofs.Read.{leg_read}
use Rattle.allocator.proofs.leg_at.Goals as goal

pub returns : goal.returns
returns c = search (rules, leg_read)
