-- What accepted tables are, as facts: those of `Laid`, and what numbers 2 to 5 rule out.
use Rattle.std.specs.Prelude.{ℕ, suc, ◌+◌, ◌-◌, ◌≤◌, ◌<◌, ◌≡◌, ◌⊎◌, ◌≢◌, List}
use Rattle.shared.specs.Walk.{Stretch}
use Rattle.model.specs.Moments.{MAX}
use Rattle.model.specs.Tables.{Net}
use Rattle.model.specs.Limits.{LAST_MOMENT, LONGEST_SPAN}
use Rattle.repository.specs.Sections.{size, sec, stops, routes, trips, areas, rows, CHILD_STARTS, CHILDREN}
use Rattle.repository.specs.Sections.{CALL_STARTS, TRANSFER_STARTS, TRANSFERS, WALKS, ROUTE_STOP_STARTS, ROUTE_STOPS}
use Rattle.repository.specs.Sections.{ROUTE_TRIP_STARTS, ROUTE_TRIPS, TIME_STARTS, AREA_STARTS, AREA_STOPS}
use Rattle.repository.specs.Sections.{TRANSFER_WORDS, WALK_WORDS, stop_list_at, station_at, served_at, child_at}
use Rattle.repository.specs.Sections.{route_stop_at, route_trip_at, area_stop_at, call_route, call_first, call_last}
use Rattle.repository.specs.Sections.{transfer_from, transfer_to, transfer_stated, transfer_metres, walk_to, walk_metres}
use Rattle.repository.specs.Sections.{standing_route, standing_place, stop_on}
use Rattle.repository.specs.NetOf.{count, net_of}
use Rattle.repository.specs.Laid.{Laid}

-- row j stands under entry i of the starts section k
pub record Under (w : List ℕ) (k i j : ℕ) : Type 0 where
  pub from : sec w k i ≤ j
  pub to : j < sec w k (i + 1)

-- row j of the calls names route r for its stop, which stands at p neither before the first nor after the last position that it names
pub record Called (w : List ℕ) (r p s : ℕ) : Type 0 where
  pub row : ℕ
  pub under : Under w CALL_STARTS s row
  pub route : call_route w row ≡ r
  pub first : call_first w row ≤ p
  pub last : p ≤ call_last w row

-- a trip passes the stop
pub record Passed (w : List ℕ) (s : ℕ) : Type 0 where
  pub row : ℕ
  pub under : Under w CALL_STARTS s row
  pub trip : 0 < count w ROUTE_TRIP_STARTS (call_route w row)

-- no number 2
pub record Listed (w : List ℕ) : Type 0 where
  pub stop_list_lem : (s : ℕ) → s < stops w → stop_list_at w s ≡ s
  pub station_in : (s : ℕ) → s < stops w → (station_at w s ≡ MAX) ⊎ (station_at w s < stops w)
  pub child_in : (p j : ℕ) → p < stops w → Under w CHILD_STARTS p j → child_at w j < stops w
  pub child_of : (p j : ℕ) → p < stops w → Under w CHILD_STARTS p j → station_at w (child_at w j) ≡ p
  pub child_once : (i j : ℕ) → i < j → j < size w CHILDREN → child_at w i ≢ child_at w j
  pub child_all : (s : ℕ) → s < stops w → station_at w s ≢ MAX → (j : ℕ) × (j < size w CHILDREN) × (child_at w j ≡ s)
  pub stop_in : (i : ℕ) → i < size w ROUTE_STOPS → route_stop_at w i < stops w
  pub trip_in : (i : ℕ) → i < size w ROUTE_TRIPS → route_trip_at w i < trips w
  pub trip_once : (i j : ℕ) → i < j → j < size w ROUTE_TRIPS → route_trip_at w i ≢ route_trip_at w j
  pub trip_long : (r i : ℕ) → r < routes w
      → Under w ROUTE_TRIP_STARTS r i → count w TIME_STARTS (route_trip_at w i) ≡ count w ROUTE_STOP_STARTS r
  pub standing_route_lem : (v : ℕ) → v < trips w → standing_route w v < routes w
  pub standing_under : (v : ℕ) → v < trips w → Under w ROUTE_TRIP_STARTS (standing_route w v) (standing_place w v)
  pub standing_trip : (v : ℕ) → v < trips w → route_trip_at w (standing_place w v) ≡ v
  pub call_route_lem : (s j : ℕ) → s < stops w → Under w CALL_STARTS s j → call_route w j < routes w
  pub call_first_in : (s j : ℕ) → s < stops w
      → Under w CALL_STARTS s j → call_first w j < count w ROUTE_STOP_STARTS (call_route w j)
  pub call_last_in : (s j : ℕ) → s < stops w
      → Under w CALL_STARTS s j → call_last w j < count w ROUTE_STOP_STARTS (call_route w j)
  pub call_first_lem : (s j : ℕ) → s < stops w → Under w CALL_STARTS s j → stop_on w (call_route w j) (call_first w j) ≡ s
  pub call_last_lem : (s j : ℕ) → s < stops w → Under w CALL_STARTS s j → stop_on w (call_route w j) (call_last w j) ≡ s
  pub call_rise : (s j : ℕ) → s < stops w
      → sec w CALL_STARTS s < j → j < sec w CALL_STARTS (s + 1) → call_route w (j - 1) < call_route w j
  pub call_all : (r p : ℕ) → r < routes w
      → p < count w ROUTE_STOP_STARTS r → Called w r p (stop_on w r p)
  pub served_one : (s : ℕ) → s < stops w → Passed w s → served_at w s ≡ 1
  pub served_none : (s : ℕ) → s < stops w → (Passed w s → ⊥) → served_at w s ≡ 0
  pub transfer_from_lem : (s j : ℕ) → s < stops w → Under w TRANSFER_STARTS s j → transfer_from w j ≡ s
  pub transfer_to_lem : (s j : ℕ) → s < stops w → Under w TRANSFER_STARTS s j → transfer_to w j < stops w
  pub walk_to_lem : (j : ℕ) → j < rows w WALKS WALK_WORDS → walk_to w j < stops w
  pub area_in : (i : ℕ) → i < size w AREA_STOPS → area_stop_at w i < stops w
  pub area_once_lem : (a i j : ℕ) → a < areas w → Under w AREA_STARTS a i
      → i < j → j < sec w AREA_STARTS (a + 1) → area_stop_at w i ≢ area_stop_at w j

-- no number 3
pub record Timed (n : Net) : Type 0 where
  pub from_one : (r i p : ℕ) → r < n.routes → i < n.trips r → p < n.positions r → 0 < n.arrival (n.trip_at r i) p
  pub to_million : (r i p : ℕ) → r < n.routes → i < n.trips r → p < n.positions r → n.departure (n.trip_at r i) p ≤ LAST_MOMENT
  pub stays : (r i p : ℕ) → r < n.routes → i < n.trips r → p < n.positions r
      → n.arrival (n.trip_at r i) p ≤ n.departure (n.trip_at r i) p
  pub moves : (r i p : ℕ) → r < n.routes → i < n.trips r → suc p < n.positions r
      → n.departure (n.trip_at r i) p ≤ n.arrival (n.trip_at r i) (suc p)

-- no number 4
pub record Ordered (n : Net) : Type 0 where
  pub arrivals : (r i p : ℕ) → r < n.routes → suc i < n.trips r → p < n.positions r
      → n.arrival (n.trip_at r i) p ≤ n.arrival (n.trip_at r (suc i)) p
  pub departures : (r i p : ℕ) → r < n.routes → suc i < n.trips r → p < n.positions r
      → n.departure (n.trip_at r i) p ≤ n.departure (n.trip_at r (suc i)) p

-- no number 5
pub record Measured (w : List ℕ) : Type 0 where
  pub spans : (j : ℕ) → j < rows w TRANSFERS TRANSFER_WORDS → (transfer_stated w j ≡ MAX) ⊎ (transfer_stated w j ≤ LONGEST_SPAN)
  pub transfers : (j : ℕ) → j < rows w TRANSFERS TRANSFER_WORDS → Stretch (transfer_metres w j)
  pub walks : (j : ℕ) → j < rows w WALKS WALK_WORDS → Stretch (walk_metres w j)

-- numbers 1 to 5 all passed
pub record Accepted (w : List ℕ) : Type 0 where
  pub laid : Laid w
  pub listed : Listed w
  pub timed : Timed (net_of w)
  pub ordered : Ordered (net_of w)
  pub measured : Measured w
