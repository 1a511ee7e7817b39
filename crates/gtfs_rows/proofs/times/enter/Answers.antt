-- `gtfs_rows::times::enter` meets its contract.
-- Assumes nothing.
use borrow.Author.Rules.{rules}
use Rattle.gtfs_rows.proofs.Naming.{row_in, after_entry_lem}
use Rattle.gtfs_rows.proofs.times.enter.Goals as goal

pub put_row-requires : goal.put_row-requires
put_row-requires c = search (rules, row_in)

pub returns-clause-value : goal.returns-clause-value
returns-clause-value c = search (rules, after_entry_lem)
