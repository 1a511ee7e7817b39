-- The trip at the place that a label takes is the one that the model catches, in both directions; and the place is one of the route.
use Prim.Native.Nat.{ℕ, ◌<◌}
use mathlib.Core.Path.{◌≡◌}
use mathlib.Core.List.{List}
use Rattle.model.specs.declared.Direction.{Direction}
use Rattle.model.specs.declared.Direction.TheVariants.{Departure, Arrival}
use Rattle.model.specs.Rides.{catch}
use Rattle.repository.specs.Readable.{Searchable}
use Rattle.repository.specs.NetOf.{net_of}
use Rattle.discovery.specs.Trips.{trip_place}
use Rattle.discovery.proofs.Within.{trip_in, InRoute}
use Rattle.discovery.proofs.Earliest.{earliest_trip, earliest_in}
use Rattle.discovery.proofs.Latest.{latest_trip, latest_in}

module _ (w : List ℕ) (r p x : ℕ) where
  pub place_trip : (d : Direction) → Searchable w → r < (net_of w).routes → p < (net_of w).positions r
      → trip_in (net_of w) r (trip_place d (net_of w) r p x) ≡ catch d (net_of w) r p x
  place_trip Departure h hr hp = earliest_trip (net_of w) r p x
  place_trip Arrival h hr hp = latest_trip (net_of w) r p x h.ordered hr hp

  pub place_in : (d : Direction) → InRoute (net_of w) r (trip_place d (net_of w) r p x)
  place_in Departure = earliest_in (net_of w) r p x
  place_in Arrival = latest_in (net_of w) r p x
