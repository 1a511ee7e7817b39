-- `gtfs_write_times::times_size` meets its contract: what is measured and what is left are the whole text.
-- Assumes nothing.
use Rattle.gtfs_write_times.specs.WrittenTimes.{past_last}
use Rattle.gtfs_write_times.proofs.Texts.{Sizing}
use Rattle.gtfs_write_times.proofs.times_size.Given as goal

abbrev pub invariant-loop-trip : goal.invariant-loop-trip
invariant-loop-trip l = Sizing l.times l.size (past_last l.last) l.position l.trip-index
