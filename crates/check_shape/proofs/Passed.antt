-- Laid tables pass the tests for number 1.
use Prim.Native.Nat.{ℕ, ◌+◌, ◌*◌, ◌%◌}
use mathlib.Core.Path.{◌≡◌}
use mathlib.Core.Bool.{true}
use mathlib.Core.List.{List}
use lib.Dec.{leb}
use lib.ListN.{length}
use borrow.Author.Tests.{le-leb, eq-eqb}
use Rattle.model.specs.Limits.{MOST_STOPS, MOST_ROUTES, MOST_POSITIONS, MOST_TRIPS, MOST_STOP_TIMES}
use Rattle.model.specs.Limits.{MOST_TRANSFERS, MOST_WALKS, MOST_AREAS, MOST_AREA_ENTRIES}
use Rattle.repository.specs.Sections.{start, size, sec, stops, routes, trips, areas, rows, STOP_LIST, STATIONS}
use Rattle.repository.specs.Sections.{CHILD_STARTS, CHILDREN, CALL_STARTS, CALLS, SERVED, TRANSFER_STARTS, TRANSFERS}
use Rattle.repository.specs.Sections.{WALK_STARTS, WALKS, ROUTE_STOP_STARTS, ROUTE_STOPS, ROUTE_TRIP_STARTS}
use Rattle.repository.specs.Sections.{ROUTE_TRIPS, TIME_STARTS, TIMES, AREA_STARTS, AREA_STOPS, STANDING, SECTIONS, HEADER}
use Rattle.repository.specs.Sections.{CALL_WORDS, TRANSFER_WORDS, WALK_WORDS, TIME_WORDS, STANDING_WORDS}
use Rattle.repository.specs.NetOf.{count}
use Rattle.repository.specs.Laid.{headed, well_sized, limited, starts_section, well_started, positioned, laid, Starts, Laid}
use Rattle.check_shape.specs.Shape.{route_fits}
use Rattle.repository.proofs.All.{all_so}

module _ (w : List ℕ) (k n m : ℕ) where
  starting_so : Starts w k n m → starts_section w k n m ≡ true
  unfolding starts_section
  starting_so h =
      rw (
        eq-eqb (sec w k 0) 0 h.first,
        eq-eqb (sec w k n) m h.last,
        all_so (λ (i : ℕ). leb (sec w k i) (sec w k (i + 1))) 0 n (λ i a b. le-leb _ _ (h.rise i b)),
      )

module _ {w : List ℕ} (h : Laid w) where
  headed_so : headed w ≡ true
  unfolding headed
  headed_so =
      rw (
        le-leb HEADER (length w) h.head,
        eq-eqb (start w STOP_LIST) HEADER h.first,
        eq-eqb (start w SECTIONS) (length w) h.last,
        all_so (λ k. leb (start w k) (start w (k + 1))) 0 SECTIONS (λ k a b. le-leb _ _ (h.rise k b)),
      )

  sized_so : well_sized w ≡ true
  unfolding well_sized
  sized_so =
      rw (
        eq-eqb (size w STATIONS) (stops w) h.stations_size,
        eq-eqb (size w CHILD_STARTS) (stops w + 1) h.child_starts_size,
        eq-eqb (size w CALL_STARTS) (stops w + 1) h.call_starts_size,
        eq-eqb (size w SERVED) (stops w) h.served_size,
        eq-eqb (size w TRANSFER_STARTS) (stops w + 1) h.transfer_starts_size,
        eq-eqb (size w WALK_STARTS) (stops w + 1) h.walk_starts_size,
        le-leb 1 (size w ROUTE_STOP_STARTS) h.route_stop_starts_size,
        eq-eqb (size w ROUTE_TRIP_STARTS) (size w ROUTE_STOP_STARTS) h.route_trip_starts_size,
        le-leb 1 (size w TIME_STARTS) h.time_starts_size,
        eq-eqb (size w ROUTE_TRIPS) (trips w) h.route_trips_size,
        le-leb 1 (size w AREA_STARTS) h.area_starts_size,
        eq-eqb (size w CALLS % CALL_WORDS) 0 h.calls,
        eq-eqb (size w TRANSFERS % TRANSFER_WORDS) 0 h.transfers,
        eq-eqb (size w WALKS % WALK_WORDS) 0 h.walks,
        eq-eqb (size w TIMES % TIME_WORDS) 0 h.times,
        eq-eqb (size w STANDING) (trips w * STANDING_WORDS) h.standing_size,
      )

  limited_so : limited w ≡ true
  unfolding limited
  limited_so =
      rw (
        le-leb (stops w) MOST_STOPS h.stops_limit,
        le-leb (routes w) MOST_ROUTES h.routes_limit,
        le-leb (trips w) MOST_TRIPS h.trips_limit,
        le-leb (rows w TIMES TIME_WORDS) MOST_STOP_TIMES h.times_limit,
        le-leb (rows w TRANSFERS TRANSFER_WORDS) MOST_TRANSFERS h.transfers_limit,
        le-leb (rows w WALKS WALK_WORDS) MOST_WALKS h.walks_limit,
        le-leb (areas w) MOST_AREAS h.areas_limit,
        le-leb (size w AREA_STOPS) MOST_AREA_ENTRIES h.entries_limit,
      )

  started_so : well_started w ≡ true
  unfolding well_started
  started_so =
      rw (
        starting_so w CHILD_STARTS (stops w) (size w CHILDREN) h.child_starts,
        starting_so w CALL_STARTS (stops w) (rows w CALLS CALL_WORDS) h.call_starts,
        starting_so w TRANSFER_STARTS (stops w) (rows w TRANSFERS TRANSFER_WORDS) h.transfer_starts,
        starting_so w WALK_STARTS (stops w) (rows w WALKS WALK_WORDS) h.walk_starts,
        starting_so w ROUTE_STOP_STARTS (routes w) (size w ROUTE_STOPS) h.route_stop_starts,
        starting_so w ROUTE_TRIP_STARTS (routes w) (size w ROUTE_TRIPS) h.route_trip_starts,
        starting_so w TIME_STARTS (trips w) (rows w TIMES TIME_WORDS) h.time_starts,
        starting_so w AREA_STARTS (areas w) (size w AREA_STOPS) h.area_starts,
      )

  positioned_so : positioned w ≡ true
  unfolding positioned route_fits
  positioned_so =
      all_so (route_fits w) 0 (routes w)
      (λ r a b. rw (le-leb 1 (count w ROUTE_STOP_STARTS r) (h.some_stop r b), le-leb (count w ROUTE_STOP_STARTS r) MOST_POSITIONS (h.positions_limit r b)))

  pub laid_so : laid w ≡ true
  unfolding laid
  laid_so = rw (headed_so, sized_so, limited_so, started_so, positioned_so)
