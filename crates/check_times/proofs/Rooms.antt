-- The trip at a place of a route is there, and so are the rows of its times.
use Prim.Native.Nat.{ℕ, ◌+◌, ◌≤◌, ◌<◌}
use mathlib.Core.Path.{◌≡◌}
use mathlib.Core.List.{List}
use native.Mathlib.Omega.{arith}
use Rattle.repository.specs.Sections.{size, sec, ROUTE_TRIP_STARTS, ROUTE_TRIPS}
use Rattle.repository.specs.NetOf.{count, net_of}
use Rattle.repository.specs.Laid.{Laid}
use Rattle.repository.specs.Accepted.{Under, Listed}
use Rattle.repository.specs.Rows.{trip_count, time_count, time_row}
use Rattle.repository.proofs.Rooms.{starts_top}

module _ {w : List ℕ} {r i v : ℕ} (l : Laid w) (k : Listed w) (hr : r < (net_of w).routes) (hi : i < (net_of w).trips r)
    (e : v ≡ (net_of w).trip_at r i) where
  place_under : Under w ROUTE_TRIP_STARTS r (sec w ROUTE_TRIP_STARTS r + i)
  unfolding net_of count
  place_under = record { from = omega arith; to = omega arith }

  place_in : sec w ROUTE_TRIP_STARTS r + i < size w ROUTE_TRIPS
  unfolding net_of
  place_in = let u = place_under in omega (arith, starts_top l.route_trip_starts (r + 1) (omega arith))

  pub trip_there : v < trip_count w
  unfolding net_of trip_count
  trip_there = rw e (k.trip_in (sec w ROUTE_TRIP_STARTS r + i) place_in)

  module _ {a : ℕ} (ea : a ≡ time_row w v) where
    pub row_is : a ≡ time_row w ((net_of w).trip_at r i)
    row_is = rw e at ea

    -- the trip has as many rows as the route has positions
    pub rows_in : a + (net_of w).positions r ≤ time_count w
    unfolding net_of count time_row time_count trip_count
    rows_in =
        let long = k.trip_long r (sec w ROUTE_TRIP_STARTS r + i) hr place_under in
        let on = l.time_starts.rise v (omega (arith, trip_there)) in
        omega (arith, on, (rw (← e) at long), starts_top l.time_starts (v + 1) (omega (arith, trip_there)))
