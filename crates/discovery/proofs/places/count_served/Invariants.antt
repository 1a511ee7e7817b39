-- `count_served`: the served of the stops that are left, and those counted, are all.
use Prim.Native.Nat.{◌≤◌}
use lib.ListN.{length, drop}
use Rattle.model.specs.Places.{served_of}
use Rattle.repository.specs.NetOf.{net_of}
use Rattle.discovery.specs.Served.{Tally}
use Rattle.discovery.proofs.places.count_served.Given as goal

abbrev pub invariant-loop-s : goal.invariant-loop-s
invariant-loop-s l = Tally (length (served_of (net_of l.tables) l.stops)) l.k (served_of (net_of l.tables) (drop l.s-index l.stops)) × (l.k ≤ l.s-index)
