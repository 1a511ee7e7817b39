-- `area_stops`: writing the stops that are left ends where writing all does, on places that were cleared.
use mathlib.Core.Path.{◌≡◌}
use lib.ListN.{length}
use Rattle.repository.specs.NetOf.{net_of}
use Rattle.model.specs.Places.{stops_of_area}
use Rattle.discovery.specs.Served.{puts, area_rest, Tally, Filling}
use Rattle.discovery.proofs.places.area_stops.Given as goal

abbrev pub invariant-loop-s : goal.invariant-loop-s
invariant-loop-s l =
    Filling (puts l.initial.places 0 (stops_of_area (net_of l.tables) l.a)) l.places l.k (area_rest (net_of l.tables) l.named l.s-index)
    × Tally (length (stops_of_area (net_of l.tables) l.a)) l.k (area_rest (net_of l.tables) l.named l.s-index)
    × (length l.places ≡ (net_of l.tables).stops)
