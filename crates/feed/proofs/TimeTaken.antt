-- A row that is written and read is put behind those before it.
-- Assumes nothing.
use Prim.Native.Nat.{ℕ, suc, ◌-◌, ◌≤◌, ◌<◌}
use mathlib.Core.Path.{◌≡◌, sym, ap, ◌∙◌}
use mathlib.Core.Bool.{true, false}
use mathlib.Core.List.{List, [], ◌∷◌, ◌++◌}
use native.Mathlib.Omega.{arith}
use lib.ListN.{length}
use borrow.Author.Tests.{eq-eqb, ne_eqb, lt-ltb, le-leb}
use Rattle.columns.specs.Picks.{is_named}
use Rattle.numbers.specs.Decimal.{digits}
use Rattle.feed.specs.declared.Room.{Room}
use Rattle.feed.specs.Feed.{TimeRow, Feed}
use Rattle.feed.specs.Times.{kept, entered, take_time}
use Rattle.feed.specs.Writing.{position_after}
use Rattle.feed.specs.Orderly.{Seen, seen_after, trip_fits, after_time}
use Rattle.feed.specs.Promised.{Countable}
use Rattle.feed.proofs.Numbered.{Counted, first_names, names_length, names_more, number_is, named_is, last_is, next_unnamed}
use Rattle.feed.proofs.Faultless.{stop_known, stop_inside, seen_inside, TimeRight, trip_inside, trip_either}
use Rattle.feed.proofs.TimeLines.{time_value}

-- ---- a row, behind those that were read
unfoldable pub times_feed : Seen → List TimeRow → Feed
times_feed s rows = record { stops = first_names s.stops; trips = first_names s.trips; times = rows; transfers = [] }

-- the trip of a row is the last that has appeared
pub trips_after : (room : Room) (n v : ℕ) → trip_fits room n v ≡ true → seen_after n v ≡ suc v
unfolding seen_after
trips_after room n v e =
    trip_either room n v e (λ q. rw (ne_eqb v n (λ w. omega arith)) (sym q)) (λ q. rw (eq-eqb v n q) (ap suc (sym q)))

row_taken : Seen → List TimeRow → TimeRow → Feed
row_taken s rows r = times_feed (record { stops = seen_after s.stops r.stop; trips = suc r.trip }) (rows ++ (r ∷ []))

module _ (room : Room) (countable : Countable room) (s : Seen) (rows : List TimeRow) (r : TimeRow) (right : TimeRight room s r)
    (inside : s.stops ≤ room.stops) (few : length rows < room.times) where
  stop_counted : Counted r.stop
  stop_counted = omega (arith, stop_inside room s.stops r.stop right.stop_fits_lem)

  trip_counted : Counted (suc r.trip)
  trip_counted = omega (arith, trip_inside room s.trips r.trip right.trip_fits_lem)

  row_entered : (p : ℕ) → entered room (time_value r p) (first_names (suc r.trip)) (times_feed s rows) ≡ kept (row_taken s rows r)
  unfolding entered times_feed row_taken
  row_entered p =
      let k = stop_known room s.stops r.stop right.stop_fits_lem in
      let n : Counted s.stops = omega arith in
      let z : suc r.trip - 1 ≡ r.trip = omega arith in
      rw (
        named_is s.stops r.stop n stop_counted k,
        number_is s.stops r.stop n stop_counted k,
        names_length (suc r.trip),
        names_length (seen_after s.stops r.stop),
        le-leb (suc r.trip) room.trips (trip_inside room s.trips r.trip right.trip_fits_lem),
        le-leb (seen_after s.stops r.stop) room.stops (seen_inside room s.stops r.stop right.stop_fits_lem inside),
        lt-ltb (length rows) room.times few,
        z,
      )

  module _ (last : ℕ) where
    -- of the trip of the row before
    row_on : suc r.trip ≡ s.trips
        → take_time room (time_value r (position_after s.trips r.trip last)) (times_feed s rows) last ≡ kept (row_taken s rows r)
    unfolding take_time position_after times_feed
    row_on e =
        let c = trip_counted in
        rw (last_is s.trips r.trip (omega arith) (omega arith), eq-eqb (suc r.trip) s.trips e, lt-ltb last (suc last) (omega arith))
        (ap (λ (n : ℕ). entered room (time_value r (suc last)) (first_names n) (times_feed s rows)) (sym e) ∙ row_entered (suc last))

    -- of the next trip
    row_new : r.trip ≡ s.trips
        → take_time room (time_value r (position_after s.trips r.trip last)) (times_feed s rows) last ≡ kept (row_taken s rows r)
    unfolding take_time position_after times_feed
    row_new e =
        let c = trip_counted in
        let u : is_named (digits r.trip) (first_names s.trips) ≡ false =
        ap (λ (n : ℕ). is_named (digits r.trip) (first_names n)) (sym e) ∙ next_unnamed r.trip (omega arith) in
        let t : first_names s.trips ++ (digits r.trip ∷ []) ≡ first_names (suc r.trip) =
        ap (λ (n : ℕ). first_names n ++ (digits r.trip ∷ [])) (sym e) ∙ names_more r.trip in
        rw (last_is s.trips r.trip (omega arith) (omega arith), ne_eqb (suc r.trip) s.trips (λ q. omega arith), u, t) (row_entered 0)

    pub row_taken_lem : take_time room (time_value r (position_after s.trips r.trip last)) (times_feed s rows) last
        ≡ kept (times_feed (after_time s r) (rows ++ (r ∷ [])))
    unfolding row_taken after_time
    row_taken_lem =
        trip_either room s.trips r.trip right.trip_fits_lem row_on row_new
        ∙ ap (λ (n : ℕ). kept (times_feed (record { stops = seen_after s.stops r.stop; trips = n }) (rows ++ (r ∷ []))))
        (sym (trips_after room s.trips r.trip right.trip_fits_lem))
