-- `gtfs_paths::enter` meets its contract: both names, then the four words.
-- Assumes nothing.
use borrow.Author.Rules.{rules}
use Rattle.gtfs_rows.proofs.Naming.{row_in}
use Rattle.gtfs_paths.proofs.Taking.{after_path_lem}
use Rattle.gtfs_paths.proofs.enter.Goals as goal

pub put_row-requires : goal.put_row-requires
put_row-requires c = search (rules, row_in)

pub returns-clause-value : goal.returns-clause-value
returns-clause-value c = search (rules, after_path_lem)
