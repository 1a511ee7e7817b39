-- What who reads trips asks of the tables, and what a search asks of them. Accepted tables have both: proofs/Asked.antt.
use Rattle.std.specs.Prelude.{ℕ, ◌+◌, ◌-◌, ◌≤◌, ◌<◌, ◌≡◌, List}
use Rattle.repository.specs.Sections.{size, sec, stops, routes, trips, rows, CALL_STARTS, TRANSFER_STARTS, WALKS}
use Rattle.repository.specs.Sections.{ROUTE_STOP_STARTS, ROUTE_STOPS, ROUTE_TRIP_STARTS, ROUTE_TRIPS, TIME_STARTS}
use Rattle.repository.specs.Sections.{WALK_WORDS, route_stop_at, route_trip_at, call_route, call_first, transfer_to, walk_to}
use Rattle.repository.specs.Sections.{stop_on}
use Rattle.repository.specs.NetOf.{count, net_of}
use Rattle.repository.specs.Laid.{Laid}
use Rattle.repository.specs.Accepted.{Under, Timed, Ordered, Measured}

-- the trips of a route and their times can be read
pub record Readable (w : List ℕ) : Type 0 where
  pub laid : Laid w

-- row j of the calls names route r for its stop, and a first position that is not after p
pub record CalledFrom (w : List ℕ) (r p s : ℕ) : Type 0 where
  pub row : ℕ
  pub under : Under w CALL_STARTS s row
  pub route : call_route w row ≡ r
  pub first : call_first w row ≤ p

-- of number 2, what a search goes by: every index is in range, and a stop's calls name exactly its routes, ascending, each with its first position
pub record Indexed (w : List ℕ) : Type 0 where
  pub stop_in : (i : ℕ) → i < size w ROUTE_STOPS → route_stop_at w i < stops w
  pub trip_in : (i : ℕ) → i < size w ROUTE_TRIPS → route_trip_at w i < trips w
  pub trip_long : (r i : ℕ) → r < routes w → Under w ROUTE_TRIP_STARTS r i
      → count w TIME_STARTS (route_trip_at w i) ≡ count w ROUTE_STOP_STARTS r
  pub call_route_lem : (s j : ℕ) → s < stops w → Under w CALL_STARTS s j → call_route w j < routes w
  pub call_first_in : (s j : ℕ) → s < stops w → Under w CALL_STARTS s j
      → call_first w j < count w ROUTE_STOP_STARTS (call_route w j)
  pub call_first_lem : (s j : ℕ) → s < stops w → Under w CALL_STARTS s j → stop_on w (call_route w j) (call_first w j) ≡ s
  pub call_rise : (s j : ℕ) → s < stops w → sec w CALL_STARTS s < j → j < sec w CALL_STARTS (s + 1)
      → call_route w (j - 1) < call_route w j
  pub call_all : (r p : ℕ) → r < routes w → p < count w ROUTE_STOP_STARTS r → CalledFrom w r p (stop_on w r p)
  pub transfer_to_lem : (s j : ℕ) → s < stops w → Under w TRANSFER_STARTS s j → transfer_to w j < stops w
  pub walk_to_lem : (j : ℕ) → j < rows w WALKS WALK_WORDS → walk_to w j < stops w

-- what the rounds and all below them need. Places ask for more: stations, areas and served marks
pub record Searchable (w : List ℕ) : Type 0 where
  pub laid : Laid w
  pub indexed : Indexed w
  pub timed : Timed (net_of w)
  pub ordered : Ordered (net_of w)
  pub measured : Measured w
