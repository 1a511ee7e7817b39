-- `csv_text::quoted_field` meets its contract: the bytes behind are the text so far.
-- Assumes nothing.
use Prim.Native.Nat.{◌-◌}
use mathlib.Core.Bool.{false}
use Rattle.csv_text.specs.Fields.{quoted}
use Rattle.csv_text.proofs.Scanning.{Going}
use Rattle.csv_text.proofs.quoted_field.Given as goal

abbrev pub invariant-loop-i : goal.invariant-loop-i
invariant-loop-i l = Going (quoted false) l.bytes l.a l.e l.i

abbrev pub decreases-loop-i : goal.decreases-loop-i
decreases-loop-i l = l.e - l.i
