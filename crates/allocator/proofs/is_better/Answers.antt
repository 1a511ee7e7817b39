-- `allocator::is_better` meets its contract: by the direction, and by which of the two moments is none.
-- Assumes nothing.
use borrow.Author.Rules.{rules}
use Rattle.allocator.proofs.Tests.{better_none, better_first, better_later, better_arrival}
use Rattle.allocator.proofs.is_better.Goals as goal

pub returns-then-t-eq0 : goal.returns-then-t-eq0
returns-then-t-eq0 c = search (rules, better_none)

pub returns-then-b-eq0 : goal.returns-then-b-eq0
returns-then-b-eq0 c = search (rules, better_first)

pub returns-else-b-eq0 : goal.returns-else-b-eq0
returns-else-b-eq0 c = search (rules, better_later)

pub returns-in-Arrival : goal.returns-in-Arrival
returns-in-Arrival c = search (rules, better_arrival)
