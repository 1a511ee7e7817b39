-- The facts of `Listed` make the test of number 2 pass.
use Prim.Native.Nat.{ℕ, ◌+◌}
use mathlib.Core.Path.{◌≡◌}
use mathlib.Core.Bool.{true}
use mathlib.Core.Logic.{inl, inr, ⊎_elim}
use mathlib.Core.List.{List}
use native.Mathlib.Omega.{arith}
use lib.Dec.{eqb}
use borrow.Author.Tests.{lt-ltb, eqb-false, eq-eqb}
use Rattle.base.proofs.Choice.{split}
use Rattle.model.specs.Moments.{MAX}
use Rattle.repository.specs.Sections.{size, sec, stops, routes, trips, areas, rows, STOP_LIST, STATIONS, CHILD_STARTS}
use Rattle.repository.specs.Sections.{CHILDREN, CALL_STARTS, TRANSFER_STARTS, WALKS, ROUTE_STOP_STARTS, ROUTE_STOPS}
use Rattle.repository.specs.Sections.{ROUTE_TRIP_STARTS, ROUTE_TRIPS, AREA_STARTS, AREA_STOPS, WALK_WORDS}
use Rattle.repository.specs.Sections.{transfer_from}
use Rattle.repository.specs.NetOf.{count}
use Rattle.repository.specs.Laid.{Laid}
use Rattle.repository.specs.Listed.{among, in_place, stop_list, station, stations, child, of_station, children_name}
use Rattle.repository.specs.Listed.{children_all, children, route_stops, route_trips, time_each, trip_times, call, later}
use Rattle.repository.specs.Listed.{ascending, called, called_along, calls_hold, calls_rise, calls_all, stop_routes}
use Rattle.repository.specs.Listed.{served_mark, served, transfer, transfers, walk_in, walks, area_once, areas_once}
use Rattle.repository.specs.Listed.{areas_listed, standing, standings, framed, well_listed}
use Rattle.repository.specs.Accepted.{Listed}
use Rattle.repository.proofs.All.{all_so}
use Rattle.check_calls.proofs.Ranges.{some_so}
use Rattle.check_listing.proofs.Parts.{six_so, framed_so}
use Rattle.check_listing.proofs.Stood.{standing_so}
use Rattle.check_calls.proofs.Facts.{each_so, under_so, distinct_so, index_so, or_so}
use Rattle.check_calls.proofs.CallRows.{call_so, called_so, mark_so}

module _ {w : List ℕ} (l : Laid w) (h : Listed w) where
  places : stop_list w ≡ true
  unfolding stop_list in_place
  places = each_so (in_place w) (stops w) (λ s g. eq-eqb (sec w STOP_LIST s) s (h.stop_list_lem s g))

  parents : stations w ≡ true
  unfolding stations station
  parents =
      each_so (station w) (stops w)
      (λ s g.
      or_so _ _
      (⊎_elim (λ e. inl (eq-eqb (sec w STATIONS s) MAX e)) (λ e. inr (lt-ltb (sec w STATIONS s) (stops w) e)) (h.station_in s g)))

  named : children_name w ≡ true
  unfolding children_name child
  named =
      under_so w CHILD_STARTS (stops w) (child w)
      (λ p j g u.
      rw (lt-ltb (sec w CHILDREN j) (stops w) (h.child_in p j g u)) (eq-eqb (sec w STATIONS (sec w CHILDREN j)) p (h.child_of p j g u)))

  found : children_all w ≡ true
  unfolding children_all of_station among
  found =
      each_so (of_station w) (stops w)
      (λ s g.
      split (eqb (sec w STATIONS s) MAX)
      (λ e. rw e)
      (λ e.
      let x = h.child_all s g (eqb-false (sec w STATIONS s) MAX e) in
      rw e
      (some_so (λ j. eqb (sec w CHILDREN j) s) 0 (size w CHILDREN)
      (record { at = x.0; from = omega arith; to = x.1; passes = eq-eqb (sec w CHILDREN x.0) s x.2 }))))

  stations_whole : children w ≡ true
  unfolding children
  stations_whole = rw (named, distinct_so w CHILDREN 0 (size w CHILDREN) (λ i j from. h.child_once i j)) found

  stops_in : route_stops w ≡ true
  unfolding route_stops
  stops_in = index_so w ROUTE_STOPS (stops w) h.stop_in

  trips_whole : route_trips w ≡ true
  unfolding route_trips
  trips_whole = rw (index_so w ROUTE_TRIPS (trips w) h.trip_in) (distinct_so w ROUTE_TRIPS 0 (size w ROUTE_TRIPS) (λ i j from. h.trip_once i j))

  times : trip_times w ≡ true
  unfolding trip_times time_each
  times = under_so w ROUTE_TRIP_STARTS (routes w) (time_each w) (λ r i g u. eq-eqb _ _ (h.trip_long r i g u))

  standing_rows : standings w ≡ true
  unfolding standings
  standing_rows =
      each_so (standing w) (trips w)
      (λ v g. standing_so w v (record { route = h.standing_route_lem v g; under = h.standing_under v g; trip = h.standing_trip v g }))

  hold : calls_hold w ≡ true
  unfolding calls_hold
  hold =
      under_so w CALL_STARTS (stops w) (call w)
      (λ s j g u.
      call_so w s j
      (record {
        route = h.call_route_lem s j g u;
        first_in = h.call_first_in s j g u;
        last_in = h.call_last_in s j g u;
        first = h.call_first_lem s j g u;
        last = h.call_last_lem s j g u;
      }))

  rise : calls_rise w ≡ true
  unfolding calls_rise ascending later
  rise =
      each_so (ascending w) (stops w)
      (λ s g.
      all_so (later w) (sec w CALL_STARTS s + 1) (sec w CALL_STARTS (s + 1)) (λ j from to. lt-ltb _ _ (h.call_rise s j g (omega arith) to)))

  positions : calls_all w ≡ true
  unfolding calls_all called_along
  positions =
      each_so (called_along w) (routes w)
      (λ r g. each_so (called w r) (count w ROUTE_STOP_STARTS r) (λ p k. called_so w r p (h.call_all r p g k)))

  calls_whole : stop_routes w ≡ true
  unfolding stop_routes
  calls_whole = rw (hold, rise) positions

  marks : served w ≡ true
  unfolding served
  marks = each_so (served_mark w) (stops w) (λ s g. mark_so w s (h.served_one s g) (h.served_none s g))

  transfers_whole : transfers w ≡ true
  unfolding transfers transfer
  transfers_whole =
      under_so w TRANSFER_STARTS (stops w) (transfer w)
      (λ s j g u. rw (eq-eqb (transfer_from w j) s (h.transfer_from_lem s j g u)) (lt-ltb _ _ (h.transfer_to_lem s j g u)))

  walks_whole : walks w ≡ true
  unfolding walks walk_in
  walks_whole = each_so (walk_in w) (rows w WALKS WALK_WORDS) (λ j g. lt-ltb _ _ (h.walk_to_lem j g))

  areas_whole : areas_listed w ≡ true
  unfolding areas_listed areas_once area_once
  areas_whole =
      rw (index_so w AREA_STOPS (stops w) h.area_in)
      (each_so (area_once w) (areas w)
      (λ a g.
      distinct_so w AREA_STOPS (sec w AREA_STARTS a) (sec w AREA_STARTS (a + 1))
      (λ i j from k to. h.area_once_lem a i j g (record { from = from; to = omega arith }) k to)))

  pub listed_so : well_listed w ≡ true
  unfolding well_listed
  listed_so =
      six_so (framed w) (stop_routes w) (served w) (transfers w) (walks w) (areas_listed w)
      (record {
        first =
            framed_so w
            (record {
              first = places;
              second = parents;
              third = stations_whole;
              fourth = stops_in;
              fifth = trips_whole;
              sixth = times;
            })
            standing_rows;
        second = calls_whole;
        third = marks;
        fourth = transfers_whole;
        fifth = walks_whole;
        sixth = areas_whole;
      })
