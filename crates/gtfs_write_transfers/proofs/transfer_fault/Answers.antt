-- `gtfs_write_transfers::transfer_fault` meets its contract: a stop that fits is no greatest word.
-- Assumes nothing.
use Rattle.gtfs_write_transfers.proofs.Faults.{stop_small}
use Rattle.gtfs_write_transfers.proofs.transfer_fault.Goals as goal

pub seen_after-requires : goal.seen_after-requires
seen_after-requires c = stop_small _ _ c.if-not-stop_fits.ensures
