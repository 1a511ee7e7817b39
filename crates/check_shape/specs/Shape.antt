-- What the functions of the shape's check ask and ensure, beside the definitions of `Laid`.
use Rattle.std.specs.Prelude.{ℕ, ◌+◌, ◌≤◌, ◌<◌, ◌≡◌, Bool, ◌&&◌, List, leb, eqb, length, get_or}
use Rattle.model.specs.Limits.{MOST_POSITIONS}
use Rattle.repository.specs.Sections.{start, size, stops, routes, trips, areas, STATIONS, CHILD_STARTS, CALL_STARTS}
use Rattle.repository.specs.Sections.{SERVED, TRANSFER_STARTS, WALK_STARTS, ROUTE_STOP_STARTS, ROUTE_TRIP_STARTS}
use Rattle.repository.specs.Sections.{TIME_STARTS, AREA_STARTS, SECTIONS, HEADER}
use Rattle.repository.specs.NetOf.{count}

-- the header passed: each section lies within the words
pub record Headed (w : List ℕ) : Type 0 where
  pub head : HEADER ≤ length w
  pub last : start w SECTIONS ≡ length w
  pub rise : (k : ℕ) → k < SECTIONS → start w k ≤ start w (k + 1)

-- the sizes passed: each starts section has an entry for each of its rows' owners, and one more
pub record Roomy (w : List ℕ) : Type 0 where
  pub child_room : stops w < size w CHILD_STARTS
  pub call_room : stops w < size w CALL_STARTS
  pub transfer_room : stops w < size w TRANSFER_STARTS
  pub walk_room : stops w < size w WALK_STARTS
  pub stop_room : routes w < size w ROUTE_STOP_STARTS
  pub trip_room : routes w < size w ROUTE_TRIP_STARTS
  pub time_room : trips w < size w TIME_STARTS
  pub area_room : areas w < size w AREA_STARTS

-- of the words from o on, word i + 1 is not below word i
unfoldable pub no_fall : List ℕ → ℕ → ℕ → Bool
no_fall w o i = leb (get_or w (o + i) 0) (get_or w (o + (i + 1)) 0)

-- a route has a stop, and not more positions than the limit
unfoldable pub route_fits : List ℕ → ℕ → Bool
route_fits w r = leb 1 (count w ROUTE_STOP_STARTS r) && leb (count w ROUTE_STOP_STARTS r) MOST_POSITIONS

-- the part of `sized` that speaks of stops
unfoldable pub stop_sized : List ℕ → Bool
stop_sized w =
    eqb (size w STATIONS) (stops w) && eqb (size w CHILD_STARTS) (stops w + 1) && eqb (size w CALL_STARTS) (stops w + 1)
    && eqb (size w SERVED) (stops w) && eqb (size w TRANSFER_STARTS) (stops w + 1) && eqb (size w WALK_STARTS) (stops w + 1)
