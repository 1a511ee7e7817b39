-- The trips of a route are there, and so are their times.
use Prim.Native.Nat.{ℕ, ◌+◌, ◌<◌}
use mathlib.Core.Path.{◌≡◌, refl, ◌∙◌}
use mathlib.Core.List.{List}
use native.Mathlib.Omega.{arith}
use Rattle.model.specs.Tables.{Net}
use Rattle.model.specs.Limits.{MOST_TRIPS}
use Rattle.repository.specs.Sections.{sec, ROUTE_TRIP_STARTS, TIME_STARTS, arrival_in, departure_in}
use Rattle.repository.specs.NetOf.{count, net_of}
use Rattle.repository.specs.Accepted.{Under}
use Rattle.repository.specs.Readable.{Searchable}
use Rattle.repository.specs.Rows.{TripOf, Stands, trip_count, time_count, time_row}
use Rattle.repository.proofs.Rooms.{starts_top, trip_of_route}

module _ {w : List ℕ} {r v : ℕ} (h : Searchable w) (i : r < (net_of w).routes) (t : TripOf (net_of w) r v) where
  trip_under : Under w ROUTE_TRIP_STARTS r (sec w ROUTE_TRIP_STARTS r + t.place)
  unfolding net_of count
  trip_under = record { from = omega arith; to = omega (arith, t.within) }

  pub trip_known : v < trip_count w
  unfolding net_of trip_count
  trip_known =
      let u = trip_under in
      let words = trip_of_route h.laid i in
      rw t.trip (h.indexed.trip_in (sec w ROUTE_TRIP_STARTS r + t.place) (omega (arith, u.to, words.within)))

  pub trip_long : count w TIME_STARTS v ≡ (net_of w).positions r
  unfolding net_of
  trip_long = rw t.trip (h.indexed.trip_long r (sec w ROUTE_TRIP_STARTS r + t.place) i trip_under)

  pub time_known : {p row : ℕ} → p < (net_of w).positions r → row ≡ time_row w v → row + p < time_count w
  unfolding time_row time_count count trip_count
  time_known l e =
      let top = starts_top h.laid.time_starts (v + 1) (omega (arith, trip_known)) in
      omega (arith, top, trip_long)

pub place_of_trip : {n : Net} {r i v : ℕ} → i < n.trips r → v ≡ n.trip_at r i → TripOf n r v
place_of_trip {i = i} l e = record { place = i; within = l; trip = e }

pub trip_counted : {w : List ℕ} {r i : ℕ} → Searchable w → r < (net_of w).routes → i < (net_of w).trips r
    → (net_of w).trip_at r i < trip_count w
trip_counted {w} {r} {i} h l k = trip_known {r = r} h l (place_of_trip {n = net_of w} {r = r} {i = i} k refl)

-- "16,384 trips"
pub trip_few : {w : List ℕ} {r i : ℕ} → Searchable w → r < (net_of w).routes → i < (net_of w).trips r → (net_of w).trip_at r i < MOST_TRIPS
unfolding trip_count
trip_few h l k = let most = h.laid.trips_limit in omega (arith, trip_counted h l k)

-- so no route has more places for them
pub place_few : {w : List ℕ} {r i : ℕ} → Searchable w → r < (net_of w).routes → i < (net_of w).trips r → i < MOST_TRIPS
unfolding net_of count
place_few h l k = omega (arith, (trip_of_route h.laid l).within, h.laid.route_trips_size, h.laid.trips_limit)

pub stands : {w : List ℕ} {r v p : ℕ} → Searchable w → r < (net_of w).routes → TripOf (net_of w) r v
    → p < (net_of w).positions r → Stands w v p
stands h i t l = record { trip = trip_known h i t; row = time_known h i t l refl }

module _ (w : List ℕ) (v p : ℕ) {row t : ℕ} (e : row ≡ time_row w v) where
  pub arrival_is : t ≡ arrival_in w row p → t ≡ (net_of w).arrival v p
  unfolding net_of time_row
  arrival_is f = f ∙ rw e

  pub departure_is : t ≡ departure_in w row p → t ≡ (net_of w).departure v p
  unfolding net_of time_row
  departure_is f = f ∙ rw e
