-- `gtfs_transfers::read_transfers` meets its contract: the header, and behind it the rows.
-- Assumes nothing.
use borrow.Author.Rules.{rules}
use Rattle.gtfs_transfers.proofs.Heading.{none_told, none_left, head_told, head_left, begins, rows_told, rows_left}
use Rattle.gtfs_transfers.proofs.read_transfers.Goals as goal

pub returns-then-second-a-clause-value : goal.returns-then-second-a-clause-value
returns-then-second-a-clause-value c = search (rules, none_told)

pub returns-then-second-a-clause-transfers_left : goal.returns-then-second-a-clause-transfers_left
returns-then-second-a-clause-transfers_left c = search (rules, none_left)

pub returns-in_default-clause-value : goal.returns-in_default-clause-value
returns-in_default-clause-value c = search (rules, head_told)

pub returns-in_default-clause-transfers_left : goal.returns-in_default-clause-transfers_left
returns-in_default-clause-transfers_left c = search (rules, head_left)

pub read_rows-requires : goal.read_rows-requires
read_rows-requires c = search (rules, begins)

pub returns-clause-value : goal.returns-clause-value
returns-clause-value c = search (rules, rows_told)

pub returns-clause-transfers_left : goal.returns-clause-transfers_left
returns-clause-transfers_left c = search (rules, rows_left)
