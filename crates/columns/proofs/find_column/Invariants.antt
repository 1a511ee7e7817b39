-- `columns::find_column` meets its contract: where the column stands among the fields so far.
-- Assumes nothing.
use Prim.Native.Nat.{◌-◌}
use Rattle.columns.proofs.Finding.{Found}
use Rattle.columns.proofs.find_column.Given as goal

abbrev pub invariant-loop-field : goal.invariant-loop-field
invariant-loop-field l = Found l.bytes l.a l.e l.name l.i l.k l.was

abbrev pub decreases-loop-field : goal.decreases-loop-field
decreases-loop-field l = l.e - l.i
