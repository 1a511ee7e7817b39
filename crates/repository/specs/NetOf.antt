-- The network that the words hold.
use Rattle.std.specs.Prelude.{ℕ, ◌+◌, ◌-◌, cond, List, eqb}
use Rattle.std.specs.Prelude.{Option, None, Some}
use Rattle.base.specs.Tab.{tab}
use Rattle.model.specs.Moments.{MAX}
use Rattle.model.specs.Spans.{transfer_span, walk_span}
use Rattle.model.specs.Tables.{Foot, Net}
use Rattle.repository.specs.Sections.{sec, stops, routes, areas, CHILD_STARTS, CALL_STARTS, TRANSFER_STARTS}
use Rattle.repository.specs.Sections.{WALK_STARTS, ROUTE_STOP_STARTS, ROUTE_TRIP_STARTS, TIME_STARTS, AREA_STARTS}
use Rattle.repository.specs.Sections.{station_at, served_at, child_at, area_stop_at, call_route, transfer_to, transfer_stated}
use Rattle.repository.specs.Sections.{transfer_metres, walk_to, walk_metres, stop_on, trip_on, arrival_in, departure_in}

-- how many rows entry i of the starts section k has
unfoldable pub count : List ℕ → ℕ → ℕ → ℕ
count w k i = sec w k (i + 1) - sec w k i

-- the list of those rows, of which f reads one
unfoldable pub list_of : {A : Type 0} → List ℕ → ℕ → (ℕ → A) → ℕ → List A
list_of w k f i = tab f (count w k i) (sec w k i)

-- row j of the transfers, and of the walks
unfoldable pub transfer_row : List ℕ → ℕ → Foot
transfer_row w j = record { to = transfer_to w j; span = transfer_span (transfer_stated w j) (transfer_metres w j) }

unfoldable pub walk_row : List ℕ → ℕ → Foot
walk_row w j = record { to = walk_to w j; span = walk_span (walk_metres w j) }

-- "absent parent is MAX"
unfoldable pub station_of : ℕ → Option ℕ
station_of p = cond (eqb p MAX) None (Some p)

unfoldable pub net_of : List ℕ → Net
net_of w = record {
  stops = stops w;
  routes = routes w;
  positions = count w ROUTE_STOP_STARTS;
  stop_at = λ r p. stop_on w r p;
  trips = count w ROUTE_TRIP_STARTS;
  trip_at = λ r i. trip_on w r i;
  arrival = λ v p. arrival_in w (sec w TIME_STARTS v) p;
  departure = λ v p. departure_in w (sec w TIME_STARTS v) p;
  routes_of = list_of w CALL_STARTS (call_route w);
  transfers = list_of w TRANSFER_STARTS (transfer_row w);
  walks = list_of w WALK_STARTS (walk_row w);
  station = λ s. station_of (station_at w s);
  children = list_of w CHILD_STARTS (child_at w);
  served = λ s. eqb (served_at w s) 1;
  areas = areas w;
  area_stops = list_of w AREA_STARTS (area_stop_at w);
}
