-- `put_served`: writing the served of the stops that are left ends where writing all does.
use mathlib.Core.Path.{◌≡◌}
use Prim.Native.Nat.{◌+◌}
use lib.ListN.{length, drop}
use Rattle.model.specs.Places.{served_of}
use Rattle.repository.specs.NetOf.{net_of}
use Rattle.discovery.specs.Served.{puts, Tally, Filling}
use Rattle.discovery.proofs.places.put_served.Given as goal

abbrev pub invariant-loop-s : goal.invariant-loop-s
invariant-loop-s l =
    Filling (puts l.initial.places l.k (served_of (net_of l.tables) l.stops)) l.places l.m (served_of (net_of l.tables) (drop l.s-index l.stops))
    × Tally (l.k + length (served_of (net_of l.tables) l.stops)) l.m (served_of (net_of l.tables) (drop l.s-index l.stops))
    × (length l.places ≡ length l.initial.places)
