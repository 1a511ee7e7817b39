-- `gtfs_rows::times::is_last` meets its contract.
-- Assumes nothing.
use borrow.Author.Rules.{rules}
use Rattle.gtfs_rows.proofs.Naming.{no_last, last_is}
use Rattle.gtfs_rows.proofs.times.is_last.Goals as goal

pub returns-then-shelf-eq0 : goal.returns-then-shelf-eq0
returns-then-shelf-eq0 c = search (rules, no_last)

pub returns : goal.returns
returns c = search (rules, last_is)
