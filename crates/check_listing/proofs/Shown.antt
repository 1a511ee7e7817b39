-- Tables that pass the test of number 2 have the facts of `Listed`.
use Prim.Native.Nat.{ℕ, ◌+◌, ◌-◌, ◌<◌}
use mathlib.Core.Path.{◌≡◌}
use mathlib.Core.Bool.{true, ◌&&◌}
use mathlib.Core.Logic.{◌⊎◌, inl, inr, ⊎_elim, ◌≢◌}
use mathlib.Core.List.{List}
use native.Mathlib.Omega.{arith}
use lib.Dec.{ltb, eqb}
use borrow.Author.Tests.{ltb-true, eqb-true}
use Rattle.base.proofs.Choice.{and_left, and_right}
use Rattle.base.proofs.All.{all_at}
use Rattle.model.specs.Moments.{MAX}
use Rattle.repository.specs.Sections.{size, sec, stops, routes, trips, areas, rows, STOP_LIST, STATIONS, CHILD_STARTS}
use Rattle.repository.specs.Sections.{CHILDREN, CALL_STARTS, TRANSFER_STARTS, WALKS, ROUTE_STOP_STARTS, ROUTE_STOPS}
use Rattle.repository.specs.Sections.{ROUTE_TRIP_STARTS, ROUTE_TRIPS, TIME_STARTS, AREA_STARTS, AREA_STOPS, WALK_WORDS}
use Rattle.repository.specs.Sections.{call_route, transfer_from, transfer_to, walk_to}
use Rattle.repository.specs.NetOf.{count}
use Rattle.repository.specs.Laid.{Laid}
use Rattle.repository.specs.Listed.{among, distinct, in_range, in_place, stop_list, station, stations, child}
use Rattle.repository.specs.Listed.{of_station, children_name, children_all, children, route_stops, route_trips}
use Rattle.repository.specs.Listed.{time_each, trip_times, call, later, ascending, called, called_along, calls_hold}
use Rattle.repository.specs.Listed.{calls_rise, calls_all, stop_routes, served_mark, served, transfer, transfers, walk_in}
use Rattle.repository.specs.Listed.{walks, area_once, areas_once, areas_listed, standing, standings, framed, well_listed}
use Rattle.repository.specs.Accepted.{Under, Called, Listed}
use Rattle.check_calls.proofs.Ranges.{some_shown}
use Rattle.check_listing.proofs.Rows.{child_shown}
use Rattle.check_listing.proofs.Parts.{Six, six_shown, framed_parts, framed_standings}
use Rattle.check_listing.proofs.Stood.{Stood, standing_shown}
use Rattle.check_calls.proofs.Facts.{index_shown, each_shown, under_shown, distinct_shown, or_shown}
use Rattle.check_calls.proofs.CallRows.{Call, call_shown, called_shown, mark_set, mark_unset}

-- ---- from the test to the facts
module _ {w : List ℕ} (l : Laid w) (passed : well_listed w ≡ true) where
  whole : Six (framed w) (stop_routes w) (served w) (transfers w) (walks w) (areas_listed w)
  unfolding well_listed
  whole = six_shown (framed w) (stop_routes w) (served w) (transfers w) (walks w) (areas_listed w) passed

  frame : Six (stop_list w) (stations w) (children w) (route_stops w) (route_trips w) (trip_times w)
  frame = framed_parts w whole.first

  places : (s : ℕ) → s < stops w → sec w STOP_LIST s ≡ s
  unfolding stop_list in_place
  places s h = eqb-true (sec w STOP_LIST s) s (each_shown (in_place w) (stops w) frame.first s h)

  parents : (s : ℕ) → s < stops w → (sec w STATIONS s ≡ MAX) ⊎ (sec w STATIONS s < stops w)
  unfolding stations station
  parents s h =
      ⊎_elim (λ e. inl (eqb-true (sec w STATIONS s) MAX e)) (λ e. inr (ltb-true (sec w STATIONS s) (stops w) e))
      (or_shown _ _ (each_shown (station w) (stops w) frame.second s h))

  -- children
  names_and_once : children_name w && distinct w CHILDREN 0 (size w CHILDREN) ≡ true
  unfolding children
  names_and_once = and_left (children_name w && distinct w CHILDREN 0 (size w CHILDREN)) (children_all w) frame.third

  child_row : (p j : ℕ) → p < stops w → Under w CHILD_STARTS p j → (sec w CHILDREN j < stops w) × (sec w STATIONS (sec w CHILDREN j) ≡ p)
  unfolding children_name
  child_row p j h u =
      let names = and_left (children_name w) (distinct w CHILDREN 0 (size w CHILDREN)) names_and_once in
      child_shown w p j (under_shown w CHILD_STARTS (stops w) (child w) names p j h u)

  child_apart : (i j : ℕ) → i < j → j < size w CHILDREN → sec w CHILDREN i ≢ sec w CHILDREN j
  child_apart i j =
      let once = and_right (children_name w) (distinct w CHILDREN 0 (size w CHILDREN)) names_and_once in
      distinct_shown w CHILDREN 0 (size w CHILDREN) once i j (omega arith)

  child_found : (s : ℕ) → s < stops w → sec w STATIONS s ≢ MAX → (j : ℕ) × (j < size w CHILDREN) × (sec w CHILDREN j ≡ s)
  unfolding children children_all of_station among
  child_found s h n =
      let each = and_right (children_name w && distinct w CHILDREN 0 (size w CHILDREN)) (children_all w) frame.third in
      ⊎_elim (λ e. absurd (n (eqb-true (sec w STATIONS s) MAX e)))
      (λ e.
      let x = some_shown (λ j. eqb (sec w CHILDREN j) s) 0 (size w CHILDREN) e in
      (x.at, x.to, eqb-true (sec w CHILDREN x.at) s x.passes))
      (or_shown _ _ (each_shown (of_station w) (stops w) each s h))

  -- routes
  trips_in : in_range w ROUTE_TRIPS (trips w) ≡ true
  unfolding route_trips
  trips_in = and_left (in_range w ROUTE_TRIPS (trips w)) (distinct w ROUTE_TRIPS 0 (size w ROUTE_TRIPS)) frame.fifth

  trips_apart : distinct w ROUTE_TRIPS 0 (size w ROUTE_TRIPS) ≡ true
  unfolding route_trips
  trips_apart = and_right (in_range w ROUTE_TRIPS (trips w)) (distinct w ROUTE_TRIPS 0 (size w ROUTE_TRIPS)) frame.fifth

  stops_in : (i : ℕ) → i < size w ROUTE_STOPS → sec w ROUTE_STOPS i < stops w
  unfolding route_stops
  stops_in i h = index_shown w ROUTE_STOPS (stops w) frame.fourth i h

  times : (r i : ℕ) → r < routes w → Under w ROUTE_TRIP_STARTS r i → count w TIME_STARTS (sec w ROUTE_TRIPS i) ≡ count w ROUTE_STOP_STARTS r
  unfolding trip_times time_each
  times r i h u = eqb-true _ _ (under_shown w ROUTE_TRIP_STARTS (routes w) (time_each w) frame.sixth r i h u)

  standing_row : (v : ℕ) → v < trips w → Stood w v
  unfolding standings
  standing_row v h = standing_shown w v (each_shown (standing w) (trips w) (framed_standings w whole.first) v h)

  -- calls
  hold_and_rise : calls_hold w && calls_rise w ≡ true
  unfolding stop_routes
  hold_and_rise = and_left (calls_hold w && calls_rise w) (calls_all w) whole.second

  call_row : (s j : ℕ) → s < stops w → Under w CALL_STARTS s j → Call w s j
  unfolding calls_hold
  call_row s j h u =
      call_shown w s j (under_shown w CALL_STARTS (stops w) (call w) (and_left (calls_hold w) (calls_rise w) hold_and_rise) s j h u)

  calls_apart : (s j : ℕ) → s < stops w → sec w CALL_STARTS s < j → j < sec w CALL_STARTS (s + 1) → call_route w (j - 1) < call_route w j
  unfolding calls_rise ascending later
  calls_apart s j h from to =
      let rise = each_shown (ascending w) (stops w) (and_right (calls_hold w) (calls_rise w) hold_and_rise) s h in
      ltb-true _ _ (all_at (later w) (sec w CALL_STARTS s + 1) (sec w CALL_STARTS (s + 1)) rise j (omega arith) to)

  position : (r p : ℕ) → r < routes w → p < count w ROUTE_STOP_STARTS r → Called w r p (sec w ROUTE_STOPS (sec w ROUTE_STOP_STARTS r + p))
  unfolding stop_routes calls_all called_along
  position r p h g =
      let every = and_right (calls_hold w && calls_rise w) (calls_all w) whole.second in
      let along = each_shown (called_along w) (routes w) every r h in
      called_shown w r p (each_shown (called w r) (count w ROUTE_STOP_STARTS r) along p g)

  mark : (s : ℕ) → s < stops w → served_mark w s ≡ true
  unfolding served
  mark = each_shown (served_mark w) (stops w) whole.third

  -- footpaths and areas
  transfer_row : (s j : ℕ) → s < stops w → Under w TRANSFER_STARTS s j → (transfer_from w j ≡ s) × (transfer_to w j < stops w)
  unfolding transfers transfer
  transfer_row s j h u =
      let e = under_shown w TRANSFER_STARTS (stops w) (transfer w) whole.fourth s j h u in
      let a = eqb (transfer_from w j) s in
      let b = ltb (transfer_to w j) (stops w) in
      (eqb-true _ _ (and_left a b e), ltb-true _ _ (and_right a b e))

  walk_row : (j : ℕ) → j < rows w WALKS WALK_WORDS → walk_to w j < stops w
  unfolding walks walk_in
  walk_row j h = ltb-true _ _ (each_shown (walk_in w) (rows w WALKS WALK_WORDS) whole.fifth j h)

  area_row : (i : ℕ) → i < size w AREA_STOPS → sec w AREA_STOPS i < stops w
  unfolding areas_listed
  area_row i h = index_shown w AREA_STOPS (stops w) (and_left (in_range w AREA_STOPS (stops w)) (areas_once w) whole.sixth) i h

  area_apart : (a i j : ℕ) → a < areas w → Under w AREA_STARTS a i → i < j → j < sec w AREA_STARTS (a + 1)
      → sec w AREA_STOPS i ≢ sec w AREA_STOPS j
  unfolding areas_listed areas_once area_once
  area_apart a i j h u g to =
      let once = each_shown (area_once w) (areas w) (and_right (in_range w AREA_STOPS (stops w)) (areas_once w) whole.sixth) a h in
      distinct_shown w AREA_STOPS (sec w AREA_STARTS a) (sec w AREA_STARTS (a + 1)) once i j u.from g to

  pub listed_shown : Listed w
  listed_shown = record {
    stop_list_lem = places;
    station_in = parents;
    child_in = λ p j h u. (child_row p j h u).0;
    child_of = λ p j h u. (child_row p j h u).1;
    child_once = child_apart;
    child_all = child_found;
    stop_in = stops_in;
    trip_in = index_shown w ROUTE_TRIPS (trips w) trips_in;
    trip_once = λ i j. distinct_shown w ROUTE_TRIPS 0 (size w ROUTE_TRIPS) trips_apart i j (omega arith);
    trip_long = times;
    standing_route_lem = λ v h. (standing_row v h).route;
    standing_under = λ v h. (standing_row v h).under;
    standing_trip = λ v h. (standing_row v h).trip;
    call_route_lem = λ s j h u. (call_row s j h u).route;
    call_first_in = λ s j h u. (call_row s j h u).first_in;
    call_last_in = λ s j h u. (call_row s j h u).last_in;
    call_first_lem = λ s j h u. (call_row s j h u).first;
    call_last_lem = λ s j h u. (call_row s j h u).last;
    call_rise = calls_apart;
    call_all = position;
    served_one = λ s h. mark_set w s (mark s h);
    served_none = λ s h. mark_unset w s (mark s h);
    transfer_from_lem = λ s j h u. (transfer_row s j h u).0;
    transfer_to_lem = λ s j h u. (transfer_row s j h u).1;
    walk_to_lem = walk_row;
    area_in = area_row;
    area_once_lem = area_apart;
  }
