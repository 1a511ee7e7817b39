-- `gtfs_write_transfers::put_transfers` meets its contract: what is written is the front of the text.
-- Assumes nothing.
use Rattle.gtfs_write_transfers.proofs.Texts.{Putting}
use Rattle.gtfs_write_transfers.proofs.put_transfers.Given as goal

abbrev pub invariant-loop-from : goal.invariant-loop-from
invariant-loop-from l = Putting l.transfers l.initial.out l.out l.at l.from-index
