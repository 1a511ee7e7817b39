-- `explore_routes`: one chosen route after the other.
use Prim.Native.Nat.{◌-◌}
use Rattle.explorer_rides.proofs.Routes.{Exploring}
use Rattle.explorer_rides.proofs.explore_routes.Given as goal

abbrev pub invariant-loop-r : goal.invariant-loop-r
invariant-loop-r l = Exploring l.tables l.round l.initial.workspace l.workspace l.from

abbrev pub decreases-loop-r : goal.decreases-loop-r
decreases-loop-r l = l.initial.workspace.routes - l.from
