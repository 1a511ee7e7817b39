-- `gtfs_write_transfers::transfers_fault` meets its contract: what is left leads where all leads.
-- Assumes nothing.
use Rattle.gtfs_write_transfers.proofs.Faults.{Faulting}
use Rattle.gtfs_write_transfers.proofs.transfers_fault.Given as goal

abbrev pub invariant-loop-from : goal.invariant-loop-from
invariant-loop-from l = Faulting l.transfers l.stops l.seen l.from-index
