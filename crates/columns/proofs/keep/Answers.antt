-- `columns::keep` meets its contract: by whether the place is the field's.
-- Assumes nothing.
use borrow.Author.Rules.{rules}
use Rattle.columns.proofs.Gathering.{keep_new, keep_old}
use Rattle.columns.proofs.keep.Goals as goal

pub returns-then-place-k : goal.returns-then-place-k
returns-then-place-k c = search (rules, keep_new)

pub returns-else-place-k : goal.returns-else-place-k
returns-else-place-k c = search (rules, keep_old)
