-- Words that the check refuses and a search may go by: they hold N's timetable, and break each rule of number 2 that no search asks for. So
-- `Searchable` is weaker than `Accepted`, and a fact too many in it is seen here.
use Prim.Native.Nat.{ℕ, ◌+◌, ◌-◌, ◌<◌}
use mathlib.Core.Path.{◌≡◌, refl, ap}
use mathlib.Core.Bool.{Bool, true, false, ◌&&◌}
use mathlib.Core.List.{List, [], ◌∷◌}
use native.Mathlib.Omega.{arith}
use lib.Dec.{ltb, leb, eqb}
use lib.ListN.{get_or}
use lib.Ieee.{le, of_bits}
use borrow.Author.Tests.{ltb-true, leb-true, eqb-true}
use Rattle.base.specs.All.{every, all}
use Rattle.base.proofs.All.{all_at}
use Rattle.base.proofs.Choice.{and_left, and_right}
use Rattle.repository.specs.Sections.{size, sec, stops, routes, trips, rows, CHILDREN, CALL_STARTS, TRANSFER_STARTS}
use Rattle.repository.specs.Sections.{WALKS, WALK_WORDS, ROUTE_STOP_STARTS, ROUTE_STOPS, ROUTE_TRIP_STARTS, ROUTE_TRIPS}
use Rattle.repository.specs.Sections.{AREA_STOPS, call_route, call_first, transfer_to, stop_on}
use Rattle.repository.specs.NetOf.{count, net_of}
use Rattle.repository.specs.Laid.{headed, well_sized, limited, starts_section, well_started, positioned, laid}
use Rattle.repository.specs.Listed.{fails, some, among, unseen, distinct, indexed, in_range, under, in_place, stop_list}
use Rattle.repository.specs.Listed.{station, stations, child, of_station, children_name, children_all, children, route_stops}
use Rattle.repository.specs.Listed.{route_trips, time_each, trip_times, call, calls, later, ascending, called, called_along}
use Rattle.repository.specs.Listed.{calls_hold, calls_rise, calls_all, stop_routes, running, passes, served_mark, served}
use Rattle.repository.specs.Listed.{transfer, transfers, walk_in, walks, area_once, areas_once, areas_listed}
use Rattle.repository.specs.Listed.{standing, standings, framed, well_listed}
use Rattle.repository.specs.Checked.{walk, timely, timed, behind, ordered, measured, check_of}
use Rattle.repository.specs.Accepted.{Under, Accepted}
use Rattle.repository.specs.Readable.{CalledFrom, Indexed, Searchable}
use Rattle.check_times.proofs.Shown.{timed_shown, ordered_shown}
use Rattle.check_tables.proofs.Shown.{measured_shown}
use Rattle.check_tables.proofs.Whole.{check_is}

-- stop 0 is not at place 0 of the stop list, and names station 9, which is none; stop 4 has the child 9 twice; stop 0's call has 9 for its last
-- position, and stop 1's one before its first; stop 0 is served and has no mark, stop 5 is not and has one; the transfer under stop 2 says 9 for
-- it; trip 0 stands twice in route 0; each trip has 9 for its route and its place; the area names 9 twice
abbrev pub unlisted : List ℕ
unlisted =
    21 ∷ 27 ∷ 33 ∷ 40 ∷ 42 ∷ 49 ∷ 64 ∷ 70 ∷ 77 ∷ 81 ∷ 88 ∷ 88 ∷ 91 ∷ 96 ∷ 99 ∷ 103 ∷ 108 ∷ 128 ∷ 130 ∷ 132 ∷ 140
    ∷ 9 ∷ 1 ∷ 2 ∷ 3 ∷ 4 ∷ 5
    ∷ 9 ∷ 4294967295 ∷ 4294967295 ∷ 4294967295 ∷ 4294967295 ∷ 4294967295
    ∷ 0 ∷ 0 ∷ 0 ∷ 0 ∷ 0 ∷ 2 ∷ 2
    ∷ 9 ∷ 9
    ∷ 0 ∷ 1 ∷ 2 ∷ 3 ∷ 4 ∷ 5 ∷ 5
    ∷ 0 ∷ 0 ∷ 9 ∷ 0 ∷ 1 ∷ 0 ∷ 0 ∷ 2 ∷ 2 ∷ 1 ∷ 0 ∷ 0 ∷ 1 ∷ 1 ∷ 1
    ∷ 0 ∷ 1 ∷ 1 ∷ 1 ∷ 1 ∷ 1
    ∷ 0 ∷ 0 ∷ 0 ∷ 1 ∷ 1 ∷ 1 ∷ 1
    ∷ 9 ∷ 3 ∷ 30 ∷ 0
    ∷ 0 ∷ 0 ∷ 0 ∷ 0 ∷ 0 ∷ 0 ∷ 0
    ∷ 0 ∷ 3 ∷ 5
    ∷ 0 ∷ 1 ∷ 2 ∷ 3 ∷ 4
    ∷ 0 ∷ 2 ∷ 4
    ∷ 0 ∷ 0 ∷ 2 ∷ 3
    ∷ 0 ∷ 3 ∷ 6 ∷ 8 ∷ 10
    ∷ 100 ∷ 100 ∷ 200 ∷ 210 ∷ 300 ∷ 300 ∷ 400 ∷ 400 ∷ 500 ∷ 510 ∷ 600 ∷ 600
    ∷ 350 ∷ 350 ∷ 450 ∷ 450 ∷ 650 ∷ 650 ∷ 750 ∷ 750
    ∷ 0 ∷ 2
    ∷ 9 ∷ 9
    ∷ 9 ∷ 9 ∷ 9 ∷ 9 ∷ 9 ∷ 9 ∷ 9 ∷ 9 ∷ []

-- ---- tests of what a search goes by

-- row j of the calls, under stop s, names a route in which the stop stands at the first position that it names
unfoldable first_call : List ℕ → ℕ → ℕ → Bool
first_call w s j =
    let r = call_route w j in
    ltb r (routes w) && ltb (call_first w j) (count w ROUTE_STOP_STARTS r) && eqb (stop_on w r (call_first w j)) s

-- of the stop s at position p of route r, row s of the calls is its own and names the route from there or before
unfoldable own_call : List ℕ → ℕ → ℕ → Bool
own_call w r p =
    let s = stop_on w r p in
    leb (sec w CALL_STARTS s) s && ltb s (sec w CALL_STARTS (s + 1)) && eqb (call_route w s) r && leb (call_first w s) p

unfoldable own_calls : List ℕ → ℕ → Bool
own_calls w r = all (own_call w r) 0 (count w ROUTE_STOP_STARTS r)

unfoldable transfer_in : List ℕ → ℕ → ℕ → Bool
transfer_in w s j = ltb (transfer_to w j) (stops w)

unfoldable tests : List ℕ → List Bool
tests w =
    in_range w ROUTE_STOPS (stops w) ∷ in_range w ROUTE_TRIPS (trips w) ∷ trip_times w ∷ all (under w CALL_STARTS (first_call w)) 0 (stops w)
    ∷ calls_rise w ∷ all (own_calls w) 0 (routes w) ∷ all (under w TRANSFER_STARTS (transfer_in w)) 0 (stops w) ∷ walks w
    ∷ timed (net_of w) ∷ ordered (net_of w) ∷ measured w ∷ []

abbrev passed : List Bool
passed = true ∷ true ∷ true ∷ true ∷ true ∷ true ∷ true ∷ true ∷ true ∷ true ∷ true ∷ []

module _ (w : List ℕ) (ok : tests w ≡ passed) where
  nth : (i : ℕ) → get_or (tests w) i true ≡ get_or passed i true
  nth i = ap (λ (l : List Bool). get_or l i true) ok

  each : (f : ℕ → Bool) (n : ℕ) → all f 0 n ≡ true → (i : ℕ) → i < n → f i ≡ true
  each f n e i h = all_at f 0 n e i (omega arith) h

  each_under : (k n : ℕ) (f : ℕ → ℕ → Bool) → all (under w k f) 0 n ≡ true → (i j : ℕ) → i < n → Under w k i j → f i j ≡ true
  unfolding under
  each_under k n f e i j h u = all_at (f i) (sec w k i) (sec w k (i + 1)) (each (under w k f) n e i h) j u.from u.to

  in_range_lem : (k n : ℕ) → in_range w k n ≡ true → (i : ℕ) → i < size w k → sec w k i < n
  unfolding in_range indexed
  in_range_lem k n e i h = ltb-true _ _ (each (indexed w k n) (size w k) e i h)

  times : (r i : ℕ) → r < routes w → Under w ROUTE_TRIP_STARTS r i → time_each w r i ≡ true
  unfolding tests trip_times
  times = each_under ROUTE_TRIP_STARTS (routes w) (time_each w) (nth 2)

  module _ (s j : ℕ) (h : s < stops w) (u : Under w CALL_STARTS s j) where
    abbrev route_in : Bool
    route_in = ltb (call_route w j) (routes w)

    abbrev first_in : Bool
    first_in = ltb (call_first w j) (count w ROUTE_STOP_STARTS (call_route w j))

    abbrev first_is : Bool
    first_is = eqb (stop_on w (call_route w j) (call_first w j)) s

    row : route_in && first_in && first_is ≡ true
    unfolding tests first_call
    row = each_under CALL_STARTS (stops w) (first_call w) (nth 3) s j h u

    call_route_lem : call_route w j < routes w
    call_route_lem = ltb-true _ _ (and_left route_in first_in (and_left (route_in && first_in) first_is row))

    call_first_in : call_first w j < count w ROUTE_STOP_STARTS (call_route w j)
    call_first_in = ltb-true _ _ (and_right route_in first_in (and_left (route_in && first_in) first_is row))

    call_first_lem : stop_on w (call_route w j) (call_first w j) ≡ s
    call_first_lem = eqb-true _ _ (and_right (route_in && first_in) first_is row)

  call_rise : (s j : ℕ) → s < stops w → sec w CALL_STARTS s < j → j < sec w CALL_STARTS (s + 1) → call_route w (j - 1) < call_route w j
  unfolding tests calls_rise ascending later
  call_rise s j h from to =
      ltb-true _ _ (all_at (later w) (sec w CALL_STARTS s + 1) (sec w CALL_STARTS (s + 1)) (each (ascending w) (stops w) (nth 4) s h) j (omega arith) to)

  call_all : (r p : ℕ) → r < routes w → p < count w ROUTE_STOP_STARTS r → CalledFrom w r p (stop_on w r p)
  unfolding tests own_calls own_call
  call_all r p h g =
      let s = stop_on w r p in
      let a = leb (sec w CALL_STARTS s) s in
      let b = ltb s (sec w CALL_STARTS (s + 1)) in
      let c = eqb (call_route w s) r in
      let d = leb (call_first w s) p in
      let own : a && b && c && d ≡ true = each (own_call w r) (count w ROUTE_STOP_STARTS r) (each (own_calls w) (routes w) (nth 5) r h) p g in
      let abc = and_left (a && b && c) d own in
      let ab = and_left (a && b) c abc in
      record {
        row = s;
        under = record { from = leb-true _ _ (and_left a b ab); to = ltb-true _ _ (and_right a b ab) };
        route = eqb-true _ _ (and_right (a && b) c abc);
        first = leb-true _ _ (and_right (a && b && c) d own);
      }

  index_tested : Indexed w
  unfolding tests time_each transfer_in walks walk_in
  index_tested = record {
    stop_in = in_range_lem ROUTE_STOPS (stops w) (nth 0);
    trip_in = in_range_lem ROUTE_TRIPS (trips w) (nth 1);
    trip_long = λ r i h u. eqb-true _ _ (times r i h u);
    call_route_lem = call_route_lem;
    call_first_in = call_first_in;
    call_first_lem = call_first_lem;
    call_rise = call_rise;
    call_all = call_all;
    transfer_to_lem = λ s j h u. ltb-true _ _ (each_under TRANSFER_STARTS (stops w) (transfer_in w) (nth 6) s j h u);
    walk_to_lem = λ j h. ltb-true _ _ (each (walk_in w) (rows w WALKS WALK_WORDS) (nth 7) j h);
  }

-- ---- the words

-- the check answers 2
number : check_of unlisted ≡ 2
unfolding check_of laid headed well_sized limited starts_section well_started positioned size sec count net_of all every well_listed
    framed fails some among unseen distinct indexed in_range under in_place stop_list station stations child
    of_station children_name children_all children route_stops route_trips time_each trip_times standing standings call calls
    later ascending called called_along calls_hold calls_rise calls_all stop_routes running passes served_mark
    served transfer transfers walks area_once areas_once areas_listed walk timely timed behind ordered
    measured of_bits le
number = refl

-- and each test of a rule that no search goes by fails
pub unlisted_breaks :
    stop_list unlisted ∷ stations unlisted ∷ children_name unlisted ∷ distinct unlisted CHILDREN 0 (size unlisted CHILDREN)
    ∷ children_all unlisted ∷ distinct unlisted ROUTE_TRIPS 0 (size unlisted ROUTE_TRIPS) ∷ standings unlisted ∷ calls_hold unlisted
    ∷ calls_all unlisted ∷ served unlisted ∷ transfers unlisted ∷ in_range unlisted AREA_STOPS (stops unlisted) ∷ areas_once unlisted ∷ []
    ≡ false ∷ false ∷ false ∷ false ∷ false ∷ false ∷ false ∷ false ∷ false ∷ false ∷ false ∷ false ∷ false ∷ []
unfolding size sec count all every fails some among unseen distinct indexed in_range under in_place stop_list station stations child
    of_station children_name children_all standing standings call calls called called_along calls_hold calls_all running passes served_mark served transfer transfers
    area_once areas_once
unlisted_breaks = refl

-- those of what a search goes by pass
tested : tests unlisted ≡ passed
unfolding tests size sec count net_of all every indexed in_range under time_each trip_times first_call own_call own_calls later ascending calls_rise
    transfer_in walk_in walks walk timely timed behind ordered measured of_bits le
tested = refl

pub unlisted_searchable : Searchable unlisted
unfolding tests
unlisted_searchable = record {
  laid = ((check_is 2 unlisted).0 number).0;
  indexed = index_tested unlisted tested;
  timed = timed_shown (net_of unlisted) (nth unlisted tested 8);
  ordered = ordered_shown (net_of unlisted) (nth unlisted tested 9);
  measured = measured_shown unlisted (nth unlisted tested 10);
}

pub unlisted_refused : Accepted unlisted → ⊥
unlisted_refused h = ((check_is 2 unlisted).0 number).1 h.listed
