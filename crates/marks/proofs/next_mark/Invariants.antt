-- `marks::next_mark` meets its contract: the word of `from` from there on, and then whole words.
-- Assumes nothing.
use Prim.Native.Nat.{◌*◌, ◌≤◌}
use Rattle.marks.specs.Marks.{marked}
use Rattle.marks.proofs.Chosen.{Clear}
use Rattle.marks.proofs.next_mark.Given as goal

-- up to word w no stop is marked
abbrev pub invariant-loop-w : goal.invariant-loop-w
invariant-loop-w l = (l.from ≤ l.w * 64) × Clear (marked l.marks) l.from (l.w * 64)
