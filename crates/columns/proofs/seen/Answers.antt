-- `columns::seen` meets its contract: by whether the field has the name.
-- Assumes nothing.
use borrow.Author.Rules.{rules}
use Rattle.columns.proofs.Finding.{seen_named, seen_other}
use Rattle.columns.proofs.seen.Goals as goal

pub returns-then-same : goal.returns-then-same
returns-then-same c = search (rules, seen_named)

pub returns-else-same : goal.returns-else-same
returns-else-same c = search (rules, seen_other)
