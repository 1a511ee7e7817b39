-- `order_ok`: as `times_ok`, and the innermost loop keeps the times of the trip before.
use mathlib.Core.Path.{◌≡◌}
use mathlib.Core.Bool.{true}
use Rattle.repository.specs.NetOf.{net_of}
use Rattle.repository.specs.Checked.{behind}
use Rattle.check_times.proofs.Walk.{OnRoutes, OnPositions, OnTrips}
use Rattle.check_times.proofs.Tests.{Last}
use Rattle.check_times.proofs.order_ok.Given as goal

abbrev pub invariant-loop-i : goal.invariant-loop-i
invariant-loop-i l =
    OnTrips (net_of l.tables) 0 (behind (net_of l.tables)) l.m l.r l.end l.p l.count l.i × Last (net_of l.tables) l.r l.p l.i l.arrival l.departure
    × (l.ok ≡ true)

abbrev pub invariant-loop-p : goal.invariant-loop-p
invariant-loop-p l = OnPositions (net_of l.tables) 0 (behind (net_of l.tables)) l.m l.r l.end l.p × (l.ok ≡ true)

abbrev pub invariant-all : goal.invariant-all
invariant-all l = OnRoutes (net_of l.tables) 0 (behind (net_of l.tables)) l.m l.r × (l.ok ≡ true)
