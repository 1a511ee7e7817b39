-- `gtfs_transfers::read_rows` meets its contract: what stands and what is left of the file say what all rows are.
-- Assumes nothing.
use Prim.Native.Nat.{◌+◌, ◌-◌}
use mathlib.Core.Path.{◌≡◌}
use lib.ListN.{length}
use Rattle.gtfs_transfers.specs.Told.{rows_read}
use Rattle.gtfs_transfers.proofs.Pacing.{Pacing}
use Rattle.gtfs_transfers.proofs.read_rows.Given as goal

abbrev pub invariant-loop-i : goal.invariant-loop-i
invariant-loop-i l =
    Pacing l.first l.second l.c l.room l.initial.at.split (rows_read l.room l.c l.initial.at.split l.initial.i l.first l.second l.initial.stops) l.initial.paths l.initial.stops l.i l.at l.paths l.stops
    × (length l.paths ≡ length l.initial.paths) × (length l.stops ≡ length l.initial.stops)

abbrev pub decreases-loop-i : goal.decreases-loop-i
decreases-loop-i l = length l.second + 1 - l.i
