-- `gtfs_times::read_rows` meets its contract: the rows that stand and what is left say what all of them are.
-- Assumes nothing.
use Prim.Native.Nat.{◌+◌, ◌-◌}
use mathlib.Core.Path.{◌≡◌}
use lib.ListN.{length, drop}
use Rattle.csv_text.specs.Lines.{lines}
use Rattle.feed.specs.Feed.{empty_feed}
use Rattle.feed.specs.Times.{times_from}
use Rattle.gtfs_times.proofs.Going.{Going}
use Rattle.gtfs_times.proofs.read_rows.Given as goal

abbrev pub invariant-loop-i : goal.invariant-loop-i
invariant-loop-i l =
    Going l.bytes l.c l.room (times_from l.c l.room 2 (lines (drop l.from l.bytes)) empty_feed 0) l.initial.times l.initial.stops l.initial.trips l.i l.at l.times l.stops l.trips
    × (length l.times ≡ length l.initial.times) × (length l.stops ≡ length l.initial.stops) × (length l.trips ≡ length l.initial.trips)

abbrev pub decreases-loop-i : goal.decreases-loop-i
decreases-loop-i l = length l.bytes + 1 - l.i
