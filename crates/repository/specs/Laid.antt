-- Number 1: "a count over its limit, a route without a stop, a slice of wrong length". Tables without it are laid: every index that a reader
-- computes is in range.
use Rattle.std.specs.Prelude.{ℕ, ◌+◌, ◌*◌, ◌%◌, ◌≤◌, ◌<◌, ◌≡◌, Bool, ◌&&◌, List, leb, eqb, length}
use Rattle.base.specs.All.{all}
use Rattle.model.specs.Limits.{MOST_STOPS, MOST_ROUTES, MOST_POSITIONS, MOST_TRIPS, MOST_STOP_TIMES}
use Rattle.model.specs.Limits.{MOST_TRANSFERS, MOST_WALKS, MOST_AREAS, MOST_AREA_ENTRIES}
use Rattle.repository.specs.Sections.{start, size, sec, stops, routes, trips, areas, rows, STOP_LIST, STATIONS}
use Rattle.repository.specs.Sections.{CHILD_STARTS, CHILDREN, CALL_STARTS, CALLS, SERVED, TRANSFER_STARTS, TRANSFERS}
use Rattle.repository.specs.Sections.{WALK_STARTS, WALKS, ROUTE_STOP_STARTS, ROUTE_STOPS, ROUTE_TRIP_STARTS}
use Rattle.repository.specs.Sections.{ROUTE_TRIPS, TIME_STARTS, TIMES, AREA_STARTS, AREA_STOPS, STANDING, SECTIONS, HEADER}
use Rattle.repository.specs.Sections.{CALL_WORDS, TRANSFER_WORDS, WALK_WORDS, TIME_WORDS, STANDING_WORDS}
use Rattle.repository.specs.NetOf.{count}

-- the header
unfoldable pub headed : List ℕ → Bool
headed w =
    leb HEADER (length w) && eqb (start w STOP_LIST) HEADER && eqb (start w SECTIONS) (length w)
    && all (λ k. leb (start w k) (start w (k + 1))) 0 SECTIONS

-- each section has the words that the counts of stops, routes and trips ask for, and whole rows
unfoldable pub well_sized : List ℕ → Bool
well_sized w =
    eqb (size w STATIONS) (stops w) && eqb (size w CHILD_STARTS) (stops w + 1) && eqb (size w CALL_STARTS) (stops w + 1)
    && eqb (size w SERVED) (stops w) && eqb (size w TRANSFER_STARTS) (stops w + 1) && eqb (size w WALK_STARTS) (stops w + 1)
    && leb 1 (size w ROUTE_STOP_STARTS) && eqb (size w ROUTE_TRIP_STARTS) (size w ROUTE_STOP_STARTS)
    && leb 1 (size w TIME_STARTS) && eqb (size w ROUTE_TRIPS) (trips w) && leb 1 (size w AREA_STARTS)
    && eqb (size w CALLS % CALL_WORDS) 0 && eqb (size w TRANSFERS % TRANSFER_WORDS) 0
    && eqb (size w WALKS % WALK_WORDS) 0 && eqb (size w TIMES % TIME_WORDS) 0
    && eqb (size w STANDING) (trips w * STANDING_WORDS)

-- "Most: 4,096 stops, 1,024 routes, .., 16,384 trips, 262,144 stop times, 16,384 transfers, 32,768 walk entries, 1,024 areas, 16,384 area
-- entries"
unfoldable pub limited : List ℕ → Bool
limited w =
    leb (stops w) MOST_STOPS && leb (routes w) MOST_ROUTES && leb (trips w) MOST_TRIPS
    && leb (rows w TIMES TIME_WORDS) MOST_STOP_TIMES && leb (rows w TRANSFERS TRANSFER_WORDS) MOST_TRANSFERS
    && leb (rows w WALKS WALK_WORDS) MOST_WALKS && leb (areas w) MOST_AREAS && leb (size w AREA_STOPS) MOST_AREA_ENTRIES

-- section k is a starts section of n entries for a list of m rows: it "begins with 0, never falls and ends with the number of rows"
unfoldable pub starts_section : List ℕ → ℕ → ℕ → ℕ → Bool
starts_section w k n m = eqb (sec w k 0) 0 && eqb (sec w k n) m && all (λ i. leb (sec w k i) (sec w k (i + 1))) 0 n

unfoldable pub well_started : List ℕ → Bool
well_started w =
    starts_section w CHILD_STARTS (stops w) (size w CHILDREN)
    && starts_section w CALL_STARTS (stops w) (rows w CALLS CALL_WORDS)
    && starts_section w TRANSFER_STARTS (stops w) (rows w TRANSFERS TRANSFER_WORDS)
    && starts_section w WALK_STARTS (stops w) (rows w WALKS WALK_WORDS)
    && starts_section w ROUTE_STOP_STARTS (routes w) (size w ROUTE_STOPS)
    && starts_section w ROUTE_TRIP_STARTS (routes w) (size w ROUTE_TRIPS)
    && starts_section w TIME_STARTS (trips w) (rows w TIMES TIME_WORDS)
    && starts_section w AREA_STARTS (areas w) (size w AREA_STOPS)

-- no "route without a stop"; "128 positions in a route"
unfoldable pub positioned : List ℕ → Bool
positioned w = all (λ r. leb 1 (count w ROUTE_STOP_STARTS r) && leb (count w ROUTE_STOP_STARTS r) MOST_POSITIONS) 0 (routes w)

unfoldable pub laid : List ℕ → Bool
laid w = headed w && well_sized w && limited w && well_started w && positioned w

-- The same as facts

pub record Starts (w : List ℕ) (k n m : ℕ) : Type 0 where
  pub first : sec w k 0 ≡ 0
  pub last : sec w k n ≡ m
  pub rise : (i : ℕ) → i < n → sec w k i ≤ sec w k (i + 1)

pub record Laid (w : List ℕ) : Type 0 where
  pub head : HEADER ≤ length w
  pub first : start w STOP_LIST ≡ HEADER
  pub last : start w SECTIONS ≡ length w
  pub rise : (k : ℕ) → k < SECTIONS → start w k ≤ start w (k + 1)
  pub stations_size : size w STATIONS ≡ stops w
  pub child_starts_size : size w CHILD_STARTS ≡ stops w + 1
  pub call_starts_size : size w CALL_STARTS ≡ stops w + 1
  pub served_size : size w SERVED ≡ stops w
  pub transfer_starts_size : size w TRANSFER_STARTS ≡ stops w + 1
  pub walk_starts_size : size w WALK_STARTS ≡ stops w + 1
  pub route_stop_starts_size : 1 ≤ size w ROUTE_STOP_STARTS
  pub route_trip_starts_size : size w ROUTE_TRIP_STARTS ≡ size w ROUTE_STOP_STARTS
  pub route_trips_size : size w ROUTE_TRIPS ≡ trips w
  pub time_starts_size : 1 ≤ size w TIME_STARTS
  pub area_starts_size : 1 ≤ size w AREA_STARTS
  pub calls : size w CALLS % CALL_WORDS ≡ 0
  pub transfers : size w TRANSFERS % TRANSFER_WORDS ≡ 0
  pub walks : size w WALKS % WALK_WORDS ≡ 0
  pub times : size w TIMES % TIME_WORDS ≡ 0
  pub standing_size : size w STANDING ≡ trips w * STANDING_WORDS
  pub stops_limit : stops w ≤ MOST_STOPS
  pub routes_limit : routes w ≤ MOST_ROUTES
  pub trips_limit : trips w ≤ MOST_TRIPS
  pub times_limit : rows w TIMES TIME_WORDS ≤ MOST_STOP_TIMES
  pub transfers_limit : rows w TRANSFERS TRANSFER_WORDS ≤ MOST_TRANSFERS
  pub walks_limit : rows w WALKS WALK_WORDS ≤ MOST_WALKS
  pub areas_limit : areas w ≤ MOST_AREAS
  pub entries_limit : size w AREA_STOPS ≤ MOST_AREA_ENTRIES
  pub child_starts : Starts w CHILD_STARTS (stops w) (size w CHILDREN)
  pub call_starts : Starts w CALL_STARTS (stops w) (rows w CALLS CALL_WORDS)
  pub transfer_starts : Starts w TRANSFER_STARTS (stops w) (rows w TRANSFERS TRANSFER_WORDS)
  pub walk_starts : Starts w WALK_STARTS (stops w) (rows w WALKS WALK_WORDS)
  pub route_stop_starts : Starts w ROUTE_STOP_STARTS (routes w) (size w ROUTE_STOPS)
  pub route_trip_starts : Starts w ROUTE_TRIP_STARTS (routes w) (size w ROUTE_TRIPS)
  pub time_starts : Starts w TIME_STARTS (trips w) (rows w TIMES TIME_WORDS)
  pub area_starts : Starts w AREA_STARTS (areas w) (size w AREA_STOPS)
  pub some_stop : (r : ℕ) → r < routes w → 1 ≤ count w ROUTE_STOP_STARTS r
  pub positions_limit : (r : ℕ) → r < routes w → count w ROUTE_STOP_STARTS r ≤ MOST_POSITIONS
