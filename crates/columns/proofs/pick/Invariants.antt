-- `columns::pick` meets its contract: what is kept are the wanted texts of the fields so far.
-- Assumes nothing.
use Prim.Native.Nat.{◌-◌}
use Rattle.columns.proofs.Gathering.{Gathered}
use Rattle.columns.proofs.pick.Given as goal

abbrev pub invariant-loop-field : goal.invariant-loop-field
invariant-loop-field l = Gathered l.w l.bytes l.a l.e l.i l.p

abbrev pub decreases-loop-field : goal.decreases-loop-field
decreases-loop-field l = l.e - l.i
