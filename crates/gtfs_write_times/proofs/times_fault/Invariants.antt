-- `gtfs_write_times::times_fault` meets its contract: what is left leads where all leads.
-- Assumes nothing.
use Rattle.gtfs_write_times.proofs.Faults.{Faulting}
use Rattle.gtfs_write_times.proofs.times_fault.Given as goal

abbrev pub invariant-loop-trip : goal.invariant-loop-trip
invariant-loop-trip l = Faulting l.times l.stops l.trips l.trip-index
