-- `gtfs_write_transfers::transfers_size` meets its contract: what is measured and what is left are the whole text.
-- Assumes nothing.
use Rattle.gtfs_write_transfers.proofs.Texts.{Sizing}
use Rattle.gtfs_write_transfers.proofs.transfers_size.Given as goal

abbrev pub invariant-loop-from : goal.invariant-loop-from
invariant-loop-from l = Sizing l.transfers l.size l.from-index
