-- `gtfs_headers::start` meets its contract: by its first three bytes.
-- Assumes nothing.
use borrow.Author.Rules.{rules}
use Rattle.gtfs_headers.proofs.Marks.{mark_there, mark_missing}
use Rattle.gtfs_headers.proofs.start.Goals as goal

pub returns-then-starts_with-clause-bytes_value : goal.returns-then-starts_with-clause-bytes_value
returns-then-starts_with-clause-bytes_value c = search (rules, mark_there)

pub returns-else-starts_with-clause-bytes_value : goal.returns-else-starts_with-clause-bytes_value
returns-else-starts_with-clause-bytes_value c = search (rules, mark_missing)
