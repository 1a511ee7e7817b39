-- Two networks that are the same as far as they exist. What a network says past its last stop, route, trip or position means nothing, and two
-- tables that hold one timetable differ there.
use Rattle.std.specs.Prelude.{ℕ, ◌<◌, ◌≡◌}
use Rattle.model.specs.Tables.{Net}

-- all that a search asks
pub record Same (n m : Net) : Type 0 where
  pub stops : n.stops ≡ m.stops
  pub routes : n.routes ≡ m.routes
  pub positions : (r : ℕ) → r < n.routes → n.positions r ≡ m.positions r
  pub stop_at_lem : (r p : ℕ) → r < n.routes → p < n.positions r → n.stop_at r p ≡ m.stop_at r p
  pub trips : (r : ℕ) → r < n.routes → n.trips r ≡ m.trips r
  pub trip_at_lem : (r i : ℕ) → r < n.routes → i < n.trips r → n.trip_at r i ≡ m.trip_at r i
  pub arrival : (r i p : ℕ) → r < n.routes → i < n.trips r → p < n.positions r
      → n.arrival (n.trip_at r i) p ≡ m.arrival (n.trip_at r i) p
  pub departure : (r i p : ℕ) → r < n.routes → i < n.trips r → p < n.positions r
      → n.departure (n.trip_at r i) p ≡ m.departure (n.trip_at r i) p
  pub routes_of_lem : (s : ℕ) → s < n.stops → n.routes_of s ≡ m.routes_of s
  pub transfers : (s : ℕ) → s < n.stops → n.transfers s ≡ m.transfers s
  pub walks : (s : ℕ) → s < n.stops → n.walks s ≡ m.walks s

-- and all that a query asks of its places beside it
pub record SamePlaces (n m : Net) : Type 0 where
  pub areas : n.areas ≡ m.areas
  pub station : (s : ℕ) → s < n.stops → n.station s ≡ m.station s
  pub children : (s : ℕ) → s < n.stops → n.children s ≡ m.children s
  pub served : (s : ℕ) → s < n.stops → n.served s ≡ m.served s
  pub area_stops_lem : (a : ℕ) → a < n.areas → n.area_stops a ≡ m.area_stops a
