-- `first_between`: all trips before `lo` arrive before x, and none from `hi` on does.
use Prim.Native.Nat.{◌-◌, ◌≤◌}
use Rattle.base.specs.Halving.{Bracket}
use Rattle.repository.specs.NetOf.{net_of}
use Rattle.discovery.specs.Trips.{not_before}
use Rattle.discovery.proofs.first_between.Given as goal

abbrev pub invariant-loop-lo : goal.invariant-loop-lo
invariant-loop-lo l = Bracket (not_before (net_of l.tables) l.r l.p l.x) ((net_of l.tables).trips l.r) l.lo l.hi × (l.hi ≤ l.to)

abbrev pub decreases-loop-lo : goal.decreases-loop-lo
decreases-loop-lo l = l.hi - l.lo
