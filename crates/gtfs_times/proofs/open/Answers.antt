-- `gtfs_times::open` meets its contract.
-- Assumes nothing.
use borrow.Author.Rules.{rules}
use Rattle.gtfs_times.proofs.Opening.{open_none, open_bad, open_rows}
use Rattle.gtfs_times.proofs.open.Goals as goal

pub returns-then-bytes-a : goal.returns-then-bytes-a
returns-then-bytes-a c = search (rules, open_none)

pub returns-in_err-columns : goal.returns-in_err-columns
returns-in_err-columns c =
    open_bad _ _ c.start-a.ensures.bytes_value c.line-line.ensures c.times_header.ensures c.in_err-columns.was _ c.from_residual.ensures

pub returns : goal.returns
returns c = open_rows _ _ c.start-a.ensures.bytes_value c.line-line.ensures c.times_header.ensures _ c.in_ok-columns.was
