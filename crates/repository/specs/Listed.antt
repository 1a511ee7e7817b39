-- Number 2: "an index out of range, or a list breaking a listing rule". Tested on laid tables. Each test of one number or one row has a name,
-- so that the code that makes it can say so.
use Rattle.std.specs.Prelude.{ℕ, ◌+◌, ◌-◌, Bool, true, false, cond, ◌&&◌, ◌||◌, List, ltb, leb, eqb}
use Rattle.base.specs.All.{all}
use Rattle.model.specs.Moments.{MAX}
use Rattle.repository.specs.Sections.{size, sec, stops, routes, trips, areas, rows, CHILD_STARTS, CHILDREN}
use Rattle.repository.specs.Sections.{CALL_STARTS, TRANSFER_STARTS, WALKS, ROUTE_STOP_STARTS, ROUTE_STOPS}
use Rattle.repository.specs.Sections.{ROUTE_TRIP_STARTS, ROUTE_TRIPS, TIME_STARTS, AREA_STARTS, AREA_STOPS, WALK_WORDS}
use Rattle.repository.specs.Sections.{stop_list_at, station_at, served_at, child_at, route_trip_at, call_route, call_first}
use Rattle.repository.specs.Sections.{call_last, transfer_from, transfer_to, walk_to, standing_route, standing_place, stop_on}
use Rattle.repository.specs.NetOf.{count}

-- i does not pass
unfoldable pub fails : (ℕ → Bool) → ℕ → Bool
fails f i = cond (f i) false true

-- some number from a up to b passes
unfoldable pub some : (ℕ → Bool) → ℕ → ℕ → Bool
some f a b = cond (all (fails f) a b) false true

-- t is one of the words a, .., b - 1 of section k
unfoldable pub among : List ℕ → ℕ → ℕ → ℕ → ℕ → Bool
among w k a b t = some (λ j. eqb (sec w k j) t) a b

-- word i of section k is none of the words a, .., i - 1
unfoldable pub unseen : List ℕ → ℕ → ℕ → ℕ → Bool
unseen w k a i = cond (among w k a i (sec w k i)) false true

-- no two of the words a, .., b - 1 of section k are the same
unfoldable pub distinct : List ℕ → ℕ → ℕ → ℕ → Bool
distinct w k a b = all (unseen w k a) a b

-- word i of section k is an index below n
unfoldable pub indexed : List ℕ → ℕ → ℕ → ℕ → Bool
indexed w k n i = ltb (sec w k i) n

-- all are
unfoldable pub in_range : List ℕ → ℕ → ℕ → Bool
in_range w k n = all (indexed w k n) 0 (size w k)

-- the rows of entry i of the starts section k pass
unfoldable pub under : List ℕ → ℕ → (ℕ → ℕ → Bool) → ℕ → Bool
under w k f i = all (f i) (sec w k i) (sec w k (i + 1))

-- "The lent stop list holds s at place s."
unfoldable pub in_place : List ℕ → ℕ → Bool
in_place w s = eqb (stop_list_at w s) s

unfoldable pub stop_list : List ℕ → Bool
stop_list w = all (in_place w) 0 (stops w)

-- "A stop may have a parent station"
unfoldable pub station : List ℕ → ℕ → Bool
station w s = eqb (station_at w s) MAX || ltb (station_at w s) (stops w)

unfoldable pub stations : List ℕ → Bool
stations w = all (station w) 0 (stops w)

-- row j of the children, under station p, is a stop naming it
unfoldable pub child : List ℕ → ℕ → ℕ → Bool
child w p j = ltb (child_at w j) (stops w) && eqb (station_at w (child_at w j)) p

-- a stop that names a station is a child
unfoldable pub of_station : List ℕ → ℕ → Bool
of_station w s = eqb (station_at w s) MAX || among w CHILDREN 0 (size w CHILDREN) s

-- "the station's children list contains exactly the stops naming it, once each"
unfoldable pub children_name : List ℕ → Bool
children_name w = all (under w CHILD_STARTS (child w)) 0 (stops w)

unfoldable pub children_all : List ℕ → Bool
children_all w = all (of_station w) 0 (stops w)

unfoldable pub children : List ℕ → Bool
children w = children_name w && distinct w CHILDREN 0 (size w CHILDREN) && children_all w

-- indices of the routes: stops, and trips
unfoldable pub route_stops : List ℕ → Bool
route_stops w = in_range w ROUTE_STOPS (stops w)

-- "Each trip stands in exactly one route": as many as there are trips, each once
unfoldable pub route_trips : List ℕ → Bool
route_trips w = in_range w ROUTE_TRIPS (trips w) && distinct w ROUTE_TRIPS 0 (size w ROUTE_TRIPS)

-- "and has one stop time per position, shared with no other trip"
unfoldable pub time_each : List ℕ → ℕ → ℕ → Bool
time_each w r i = eqb (count w TIME_STARTS (route_trip_at w i)) (count w ROUTE_STOP_STARTS r)

unfoldable pub trip_times : List ℕ → Bool
trip_times w = all (under w ROUTE_TRIP_STARTS (time_each w)) 0 (routes w)

-- "Each trip stands in exactly one route": its row names that route and the trip's place there
unfoldable pub standing : List ℕ → ℕ → Bool
standing w v =
    let r = standing_route w v in
    let j = standing_place w v in
    ltb r (routes w) && leb (sec w ROUTE_TRIP_STARTS r) j && ltb j (sec w ROUTE_TRIP_STARTS (r + 1)) && eqb (route_trip_at w j) v

unfoldable pub standings : List ℕ → Bool
standings w = all (standing w) 0 (trips w)

-- row j of the calls, under stop s, names a route in which the stop stands at the first and the last position that it names
unfoldable pub call : List ℕ → ℕ → ℕ → Bool
call w s j =
    let r = call_route w j in
    ltb r (routes w) && ltb (call_first w j) (count w ROUTE_STOP_STARTS r) && ltb (call_last w j) (count w ROUTE_STOP_STARTS r)
    && eqb (stop_on w r (call_first w j)) s && eqb (stop_on w r (call_last w j)) s

-- row j names a later route than the row before
unfoldable pub later : List ℕ → ℕ → Bool
later w j = ltb (call_route w (j - 1)) (call_route w j)

unfoldable pub ascending : List ℕ → ℕ → Bool
ascending w s = all (later w) (sec w CALL_STARTS s + 1) (sec w CALL_STARTS (s + 1))

-- row j names route r, and position p is neither before the first nor after the last position that it names
unfoldable pub calls : List ℕ → ℕ → ℕ → ℕ → Bool
calls w r p j = eqb (call_route w j) r && leb (call_first w j) p && leb p (call_last w j)

-- a row of the stop at position p of route r does so
unfoldable pub called : List ℕ → ℕ → ℕ → Bool
called w r p = let s = stop_on w r p in some (calls w r p) (sec w CALL_STARTS s) (sec w CALL_STARTS (s + 1))

unfoldable pub called_along : List ℕ → ℕ → Bool
called_along w r = all (called w r) 0 (count w ROUTE_STOP_STARTS r)

-- "A stop's route list names exactly the routes that contain it, once each, ascending."
unfoldable pub calls_hold : List ℕ → Bool
calls_hold w = all (under w CALL_STARTS (call w)) 0 (stops w)

unfoldable pub calls_rise : List ℕ → Bool
calls_rise w = all (ascending w) 0 (stops w)

unfoldable pub calls_all : List ℕ → Bool
calls_all w = all (called_along w) 0 (routes w)

unfoldable pub stop_routes : List ℕ → Bool
stop_routes w = calls_hold w && calls_rise w && calls_all w

-- row j of the calls names a route that has a trip
unfoldable pub running : List ℕ → ℕ → Bool
running w j = ltb 0 (count w ROUTE_TRIP_STARTS (call_route w j))

-- a trip passes the stop
unfoldable pub passes : List ℕ → ℕ → Bool
passes w s = some (running w) (sec w CALL_STARTS s) (sec w CALL_STARTS (s + 1))

-- "Each stop's served mark is set exactly when a trip passes it."
unfoldable pub served_mark : List ℕ → ℕ → Bool
served_mark w s = eqb (served_at w s) (cond (passes w s) 1 0)

unfoldable pub served : List ℕ → Bool
served w = all (served_mark w) 0 (stops w)

-- "A transfer is listed under its `from_stop_idx` only."
unfoldable pub transfer : List ℕ → ℕ → ℕ → Bool
transfer w s j = eqb (transfer_from w j) s && ltb (transfer_to w j) (stops w)

unfoldable pub transfers : List ℕ → Bool
transfers w = all (under w TRANSFER_STARTS (transfer w)) 0 (stops w)

unfoldable pub walk_in : List ℕ → ℕ → Bool
walk_in w j = ltb (walk_to w j) (stops w)

unfoldable pub walks : List ℕ → Bool
walks w = all (walk_in w) 0 (rows w WALKS WALK_WORDS)

-- "An area names no stop twice"
unfoldable pub area_once : List ℕ → ℕ → Bool
area_once w a = distinct w AREA_STOPS (sec w AREA_STARTS a) (sec w AREA_STARTS (a + 1))

unfoldable pub areas_once : List ℕ → Bool
areas_once w = all (area_once w) 0 (areas w)

unfoldable pub areas_listed : List ℕ → Bool
areas_listed w = in_range w AREA_STOPS (stops w) && areas_once w

-- the rules for stops, stations and routes
unfoldable pub framed : List ℕ → Bool
framed w = stop_list w && stations w && children w && route_stops w && route_trips w && trip_times w && standings w

-- and those for what stands at stops
unfoldable pub well_listed : List ℕ → Bool
well_listed w = framed w && stop_routes w && served w && transfers w && walks w && areas_listed w
