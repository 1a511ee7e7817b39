-- `gtfs_write_times::put_times` meets its contract: what is written is the front of the text.
-- Assumes nothing.
use Rattle.gtfs_write_times.specs.WrittenTimes.{past_last}
use Rattle.gtfs_write_times.proofs.Texts.{Putting}
use Rattle.gtfs_write_times.proofs.put_times.Given as goal

abbrev pub invariant-loop-trip : goal.invariant-loop-trip
invariant-loop-trip l = Putting l.times l.initial.out l.out l.at (past_last l.last) l.position l.trip-index
