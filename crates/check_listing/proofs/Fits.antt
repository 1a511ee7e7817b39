-- What a list whose indices were found in range gives to the parts after it: entries of other lists, and a mark each.
use Prim.Native.Nat.{ℕ, ◌+◌, ◌*◌, ◌≤◌, ◌<◌}
use mathlib.Core.Path.{◌≡◌, sym, ◌∙◌}
use mathlib.Core.Bool.{Bool, true}
use mathlib.Core.List.{List}
use native.Mathlib.Omega.{arith}
use lib.ListN.{replicate, length-replicate}
use Rattle.base.proofs.Choice.{and_left}
use Rattle.marks.proofs.Laws.{clear_none}
use Rattle.repository.specs.Sections.{size, sec, stops, trips, areas, CHILD_STARTS, CHILDREN, ROUTE_TRIPS, TIME_STARTS}
use Rattle.repository.specs.Sections.{AREA_STARTS, AREA_STOPS}
use Rattle.repository.specs.Laid.{Laid}
use Rattle.repository.specs.Listed.{in_range, child, children_name, route_trips, distinct}
use Rattle.repository.specs.Entries.{Entry}
use Rattle.check_calls.proofs.Facts.{under_shown, index_shown}
use Rattle.check_listing.specs.Fitting.{Fitting, Unmarked}
use Rattle.check_listing.proofs.Rows.{child_shown}
use Rattle.repository.proofs.Rooms.{starts_top}
use Rattle.check_calls.proofs.Rooms.{row_of}

pub unmarked : (n : ℕ) → Unmarked (replicate n 0)
unmarked n = record { none = λ t h. clear_none n t (omega (arith, length-replicate {A = ℕ} n 0)) }

module _ {w : List ℕ} (l : Laid w) where
  -- ---- entries
  module _ {v i : ℕ} (e : v ≡ sec w ROUTE_TRIPS i) (h : i < size w ROUTE_TRIPS) where
    trip_in : route_trips w ≡ true → v < trips w
    unfolding route_trips
    trip_in t = rw e (index_shown w ROUTE_TRIPS (trips w) (and_left (in_range w ROUTE_TRIPS (trips w)) (distinct w ROUTE_TRIPS 0 (size w ROUTE_TRIPS)) t) i h)

    pub trip_entry : route_trips w ≡ true → Entry w TIME_STARTS v
    trip_entry t =
        record { section = omega arith; next = omega (arith, trip_in t); rise = l.time_starts.rise v (trip_in t) }

  -- ---- marks
  pub children_fit : {n : ℕ} {ok : Bool} → ok ≡ children_name w → ok ≡ true → n ≡ size w CHILDREN → Fitting w CHILDREN 0 n 64
  unfolding children_name
  children_fit {n} {ok} is t e = record { section = omega arith; order = omega arith; within = omega arith; marks = fit }
    where
      fit : (i : ℕ) → 0 ≤ i → i < n → sec w CHILDREN i < 64 * 64
      fit i g h =
          let r = row_of l.child_starts i (omega arith) in
          let own = under_shown w CHILD_STARTS (stops w) (child w) (sym is ∙ t) r.at i r.below r.under in
          omega (arith, (child_shown w r.at i own).0)

  pub trips_fit : {n m : ℕ} {ok : Bool} → ok ≡ in_range w ROUTE_TRIPS n → n ≡ trips w → ok ≡ true → m ≡ size w ROUTE_TRIPS
      → Fitting w ROUTE_TRIPS 0 m 256
  trips_fit {n} {m} {ok} is f t e = record {
    section = omega arith;
    order = omega arith;
    within = omega arith;
    marks = λ i g h. omega (arith, index_shown w ROUTE_TRIPS n (sym is ∙ t) i (omega arith));
  }

  pub area_fit : (a : ℕ) {from to : ℕ} → in_range w AREA_STOPS (stops w) ≡ true → a < areas w → from ≡ sec w AREA_STARTS a
      → to ≡ sec w AREA_STARTS (a + 1) → Fitting w AREA_STOPS from to 64
  area_fit a {from} {to} t h e f = record {
    section = omega arith;
    order = omega (arith, l.area_starts.rise a h);
    within = end;
    marks = λ i g k. omega (arith, index_shown w AREA_STOPS (stops w) t i (omega (arith, end)));
  }
    where
      end : to ≤ size w AREA_STOPS
      end = omega (arith, starts_top l.area_starts (a + 1) (omega arith))
