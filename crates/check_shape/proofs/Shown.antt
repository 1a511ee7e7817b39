-- What the tests for number 1 show. `Passed` has the other way round: `laid w ≡ true` and `Laid w` say the same.
use Prim.Native.Nat.{ℕ, ◌+◌, ◌*◌, ◌%◌, ◌≤◌, ◌<◌}
use mathlib.Core.Path.{◌≡◌, sym, ◌∙◌}
use mathlib.Core.Bool.{Bool, true}
use mathlib.Core.List.{List, [], ◌∷◌}
use native.Mathlib.Omega.{arith}
use lib.Dec.{leb, eqb}
use lib.ListN.{length, get_or}
use borrow.Author.Tests.{leb-true, eqb-true}
use Rattle.base.specs.All.{all}
use Rattle.base.proofs.All.{all_at}
use Rattle.model.specs.Limits.{MOST_STOPS, MOST_ROUTES, MOST_POSITIONS, MOST_TRIPS, MOST_STOP_TIMES}
use Rattle.model.specs.Limits.{MOST_TRANSFERS, MOST_WALKS, MOST_AREAS, MOST_AREA_ENTRIES}
use Rattle.repository.specs.Sections.{start, size, sec, stops, routes, trips, areas, rows, STOP_LIST, STATIONS}
use Rattle.repository.specs.Sections.{CHILD_STARTS, CHILDREN, CALL_STARTS, CALLS, SERVED, TRANSFER_STARTS, TRANSFERS}
use Rattle.repository.specs.Sections.{WALK_STARTS, WALKS, ROUTE_STOP_STARTS, ROUTE_STOPS, ROUTE_TRIP_STARTS}
use Rattle.repository.specs.Sections.{ROUTE_TRIPS, TIME_STARTS, TIMES, AREA_STARTS, AREA_STOPS, STANDING, SECTIONS, HEADER}
use Rattle.repository.specs.Sections.{CALL_WORDS, TRANSFER_WORDS, WALK_WORDS, TIME_WORDS, STANDING_WORDS}
use Rattle.repository.specs.NetOf.{count}
use Rattle.repository.specs.Laid.{headed, well_sized, limited, starts_section, well_started, positioned, laid, Starts, Laid}
use Rattle.check_shape.specs.Shape.{Headed, Roomy, route_fits}
use Rattle.check_shape.proofs.Joined.{joined_at}

-- the tests of each part, in their order
module _ (w : List ℕ) where
  abbrev head_tests : List Bool
  head_tests =
      leb HEADER (length w) ∷ eqb (start w STOP_LIST) HEADER ∷ eqb (start w SECTIONS) (length w)
      ∷ all (λ k. leb (start w k) (start w (k + 1))) 0 SECTIONS ∷ []

  abbrev size_tests : List Bool
  size_tests =
      eqb (size w STATIONS) (stops w) ∷ eqb (size w CHILD_STARTS) (stops w + 1) ∷ eqb (size w CALL_STARTS) (stops w + 1)
      ∷ eqb (size w SERVED) (stops w)
      ∷ eqb (size w TRANSFER_STARTS) (stops w + 1) ∷ eqb (size w WALK_STARTS) (stops w + 1) ∷ leb 1 (size w ROUTE_STOP_STARTS)
      ∷ eqb (size w ROUTE_TRIP_STARTS) (size w ROUTE_STOP_STARTS)
      ∷ leb 1 (size w TIME_STARTS) ∷ eqb (size w ROUTE_TRIPS) (trips w) ∷ leb 1 (size w AREA_STARTS)
      ∷ eqb (size w CALLS % CALL_WORDS) 0 ∷ eqb (size w TRANSFERS % TRANSFER_WORDS) 0 ∷ eqb (size w WALKS % WALK_WORDS) 0
      ∷ eqb (size w TIMES % TIME_WORDS) 0 ∷ eqb (size w STANDING) (trips w * STANDING_WORDS) ∷ []

  abbrev limit_tests : List Bool
  limit_tests =
      leb (stops w) MOST_STOPS ∷ leb (routes w) MOST_ROUTES ∷ leb (trips w) MOST_TRIPS ∷ leb (rows w TIMES TIME_WORDS) MOST_STOP_TIMES
      ∷ leb (rows w TRANSFERS TRANSFER_WORDS) MOST_TRANSFERS ∷ leb (rows w WALKS WALK_WORDS) MOST_WALKS ∷ leb (areas w) MOST_AREAS
      ∷ leb (size w AREA_STOPS) MOST_AREA_ENTRIES ∷ []

  abbrev start_tests : List Bool
  start_tests =
      starts_section w CHILD_STARTS (stops w) (size w CHILDREN) ∷ starts_section w CALL_STARTS (stops w) (rows w CALLS CALL_WORDS)
      ∷ starts_section w TRANSFER_STARTS (stops w) (rows w TRANSFERS TRANSFER_WORDS)
      ∷ starts_section w WALK_STARTS (stops w) (rows w WALKS WALK_WORDS) ∷ starts_section w ROUTE_STOP_STARTS (routes w) (size w ROUTE_STOPS)
      ∷ starts_section w ROUTE_TRIP_STARTS (routes w) (size w ROUTE_TRIPS)
      ∷ starts_section w TIME_STARTS (trips w) (rows w TIMES TIME_WORDS) ∷ starts_section w AREA_STARTS (areas w) (size w AREA_STOPS) ∷ []

  -- each part's tests pass where the part does
  headed_at : headed w ≡ true → (i : ℕ) → get_or head_tests i true ≡ true
  unfolding headed
  headed_at e = joined_at true head_tests e

  sized_at : well_sized w ≡ true → (i : ℕ) → get_or size_tests i true ≡ true
  unfolding well_sized
  sized_at e = joined_at true size_tests e

  limited_at : limited w ≡ true → (i : ℕ) → get_or limit_tests i true ≡ true
  unfolding limited
  limited_at e = joined_at true limit_tests e

  started_at : well_started w ≡ true → (i : ℕ) → get_or start_tests i true ≡ true
  unfolding well_started
  started_at e = joined_at true start_tests e

  laid_at : laid w ≡ true → (i : ℕ) → get_or (headed w ∷ well_sized w ∷ limited w ∷ well_started w ∷ positioned w ∷ []) i true ≡ true
  unfolding laid
  laid_at e = joined_at true (headed w ∷ well_sized w ∷ limited w ∷ well_started w ∷ positioned w ∷ []) e

  rising_at : headed w ≡ true → (k : ℕ) → k < SECTIONS → start w k ≤ start w (k + 1)
  rising_at e k g = leb-true _ _ (all_at (λ k. leb (start w k) (start w (k + 1))) 0 SECTIONS (headed_at e 3) k (omega arith) g)

  positioned_at : positioned w ≡ true → (r : ℕ) → r < routes w → (i : ℕ)
      → get_or (leb 1 (count w ROUTE_STOP_STARTS r) ∷ leb (count w ROUTE_STOP_STARTS r) MOST_POSITIONS ∷ []) i true ≡ true
  unfolding positioned route_fits
  positioned_at e r g =
      let fits = all_at (route_fits w) 0 (routes w) e r (omega arith) g in
      joined_at true (leb 1 (count w ROUTE_STOP_STARTS r) ∷ leb (count w ROUTE_STOP_STARTS r) MOST_POSITIONS ∷ []) fits

  -- a starts section
  module _ (k n m : ℕ) where
    abbrev starting_tests : List Bool
    starting_tests = eqb (sec w k 0) 0 ∷ eqb (sec w k n) m ∷ all (λ i. leb (sec w k i) (sec w k (i + 1))) 0 n ∷ []

    starting_at : starts_section w k n m ≡ true → (i : ℕ) → get_or starting_tests i true ≡ true
    unfolding starts_section
    starting_at e = joined_at true starting_tests e

    starting_shown : starts_section w k n m ≡ true → Starts w k n m
    starting_shown e = record {
      first = eqb-true _ _ (starting_at e 0);
      last = eqb-true _ _ (starting_at e 1);
      rise = λ i g.
          leb-true _ _ (all_at (λ i. leb (sec w k i) (sec w k (i + 1))) 0 n (starting_at e 2) i (omega arith) g);
    }

-- what the code knows once a part has passed
pub headed_known : (w : List ℕ) {b : Bool} → b ≡ headed w → b ≡ true → Headed w
headed_known w e t =
    let h = sym e ∙ t in
    record { head = leb-true _ _ (headed_at w h 0); last = eqb-true _ _ (headed_at w h 2); rise = rising_at w h }

pub sized_known : (w : List ℕ) {b : Bool} → b ≡ well_sized w → b ≡ true → Roomy w
sized_known w e t =
    let at = sized_at w (sym e ∙ t) in
    let child_size : size w CHILD_STARTS ≡ stops w + 1 = eqb-true _ _ (at 1) in
    let call_size : size w CALL_STARTS ≡ stops w + 1 = eqb-true _ _ (at 2) in
    let transfer_size : size w TRANSFER_STARTS ≡ stops w + 1 = eqb-true _ _ (at 4) in
    let walk_size : size w WALK_STARTS ≡ stops w + 1 = eqb-true _ _ (at 5) in
    let route_size : 1 ≤ size w ROUTE_STOP_STARTS = leb-true _ _ (at 6) in
    let trip_size : size w ROUTE_TRIP_STARTS ≡ size w ROUTE_STOP_STARTS = eqb-true _ _ (at 7) in
    let time_size : 1 ≤ size w TIME_STARTS = leb-true _ _ (at 8) in
    let area_size : 1 ≤ size w AREA_STARTS = leb-true _ _ (at 10) in
    record {
      child_room = omega arith;
      call_room = omega arith;
      transfer_room = omega arith;
      walk_room = omega arith;
      stop_room = omega arith;
      trip_room = omega arith;
      time_room = omega arith;
      area_room = omega arith;
    }

pub laid_shown : {w : List ℕ} → laid w ≡ true → Laid w
laid_shown {w} e =
    let parts = laid_at w e in
    let head = headed_at w (parts 0) in
    let size = sized_at w (parts 1) in
    let limit = limited_at w (parts 2) in
    let starts = started_at w (parts 3) in
    record {
      head = leb-true _ _ (head 0);
      first = eqb-true _ _ (head 1);
      last = eqb-true _ _ (head 2);
      rise = rising_at w (parts 0);
      stations_size = eqb-true _ _ (size 0);
      child_starts_size = eqb-true _ _ (size 1);
      call_starts_size = eqb-true _ _ (size 2);
      served_size = eqb-true _ _ (size 3);
      transfer_starts_size = eqb-true _ _ (size 4);
      walk_starts_size = eqb-true _ _ (size 5);
      route_stop_starts_size = leb-true _ _ (size 6);
      route_trip_starts_size = eqb-true _ _ (size 7);
      time_starts_size = leb-true _ _ (size 8);
      route_trips_size = eqb-true _ _ (size 9);
      area_starts_size = leb-true _ _ (size 10);
      calls = eqb-true _ _ (size 11);
      transfers = eqb-true _ _ (size 12);
      walks = eqb-true _ _ (size 13);
      times = eqb-true _ _ (size 14);
      standing_size = eqb-true _ _ (size 15);
      stops_limit = leb-true _ _ (limit 0);
      routes_limit = leb-true _ _ (limit 1);
      trips_limit = leb-true _ _ (limit 2);
      times_limit = leb-true _ _ (limit 3);
      transfers_limit = leb-true _ _ (limit 4);
      walks_limit = leb-true _ _ (limit 5);
      areas_limit = leb-true _ _ (limit 6);
      entries_limit = leb-true _ _ (limit 7);
      child_starts = starting_shown w _ _ _ (starts 0);
      call_starts = starting_shown w _ _ _ (starts 1);
      transfer_starts = starting_shown w _ _ _ (starts 2);
      walk_starts = starting_shown w _ _ _ (starts 3);
      route_stop_starts = starting_shown w _ _ _ (starts 4);
      route_trip_starts = starting_shown w _ _ _ (starts 5);
      time_starts = starting_shown w _ _ _ (starts 6);
      area_starts = starting_shown w _ _ _ (starts 7);
      some_stop = λ r g. leb-true _ _ (positioned_at w (parts 4) r g 0);
      positions_limit = λ r g. leb-true _ _ (positioned_at w (parts 4) r g 1);
    }
