-- `rows_before`: the rows before `lo` name earlier routes, and `hi` does not.
use Prim.Native.Nat.{◌-◌}
use Rattle.base.specs.Halving.{Bracket}
use Rattle.check_calls.specs.Reached.{reached}
use Rattle.check_calls.proofs.calls.rows_before.Given as goal

abbrev pub invariant-loop-lo : goal.invariant-loop-lo
invariant-loop-lo l = Bracket (reached l.tables l.a l.r) l.n l.lo l.hi

abbrev pub decreases-loop-lo : goal.decreases-loop-lo
decreases-loop-lo l = l.hi - l.lo
