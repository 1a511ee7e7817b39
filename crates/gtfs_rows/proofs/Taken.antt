-- A line whose row is taken or refused: what it needs, and what it leaves.
-- Assumes nothing.
use Prim.Native.Nat.{ℕ, ◌*◌}
use mathlib.Core.Path.{◌≡◌, refl, sym, subst, ◌∙◌}
use mathlib.Core.List.{List, [], ◌∷◌}
use native.Mathlib.Omega.{arith}
use lib.ListN.{length}
use Rattle.base.specs.Put.{with_bytes}
use Rattle.base.specs.Tab.{tab}
use Rattle.base.proofs.Tab.{tab_length}
use Rattle.names.specs.Book.{names_in}
use Rattle.names.specs.Booked.{Booked}
use Rattle.names.proofs.Booking.{booked_count}
use Rattle.columns.specs.Picks.{text_at}
use Rattle.feed.specs.declared.Room.{Room}
use Rattle.feed.specs.declared.TimeSpans.{TimeSpans}
use Rattle.feed.specs.Feed.{Feed}
use Rattle.feed.specs.Times.{take_time}
use Rattle.feed.specs.Spans.{time_at}
use Rattle.std.specs.Prelude.{Result, Ok, Err, IsErrAnd}
use Rattle.std.proofs.lemmas.Result.{err_from_is_err_and}
use Rattle.gtfs_rows.specs.declared.times.Numbers.{Numbers}
use Rattle.gtfs_rows.specs.declared.times.Fault.{Fault}
use Rattle.gtfs_rows.specs.declared.times.Reached.{Reached}
use Rattle.gtfs_rows.specs.Named.{names_with}
use Rattle.gtfs_rows.specs.Taking.{plan_of, stop_shelf, trip_shelf, after_entry, Enters, Takeable, plan_in, took_by, Takes}
use Rattle.gtfs_rows.proofs.Naming.{booked_here}
use Rattle.gtfs_rows.proofs.Taking.{Plans, plan_right}

-- ---- a row that is taken
module _ {b : List ℕ} {room : Room} {at : Reached} {v : TimeSpans} {x s t : List ℕ} (h : Takeable b room at v x s t) {d : Result Numbers Fault}
    (y : d ≡ plan_of room (time_at b v) (names_in b b (stop_shelf room at) s) (names_in b b (trip_shelf room at) t) at) where
  -- a feed with these names and so many rows
  some_feed : Feed
  some_feed = record {
    stops = names_in b b (stop_shelf room at) s;
    trips = names_in b b (trip_shelf room at) t;
    times = tab (λ i. record { trip = 0; stop = 0; arrival = 0; departure = 0 }) at.times 0;
    transfers = [];
  }

  pub plan_enters : (n : Numbers) → d ≡ Ok n → Enters b room at (record { trip = n.trip; stop = n.stop; line = v }) x s t
  unfolding some_feed
  plan_enters e z =
      let n : at.stops ≡ length some_feed.stops = booked_count (booked_here h.stop_book) in
      let j : at.trips ≡ length some_feed.trips = booked_count (booked_here h.trip_book) in
      let i : length some_feed.times ≡ at.times = tab_length (λ i. record { trip = 0; stop = 0; arrival = 0; departure = 0 }) at.times 0 in
      let few = h.stop_book.few in
      let p : Plans room (time_at b v) some_feed (take_time room (time_at b v) some_feed at.last) (Ok e) =
      subst (Plans room (time_at b v) some_feed (take_time room (time_at b v) some_feed at.last)) (sym y ∙ z)
      (plan_right room (time_at b v) some_feed at (omega arith) (sym j) i) in
      let sm = h.small in
      record {
        stop_book = h.stop_book;
        trip_book = h.trip_book;
        stop_text = h.stop_text;
        trip_text = h.trip_text;
        short = h.short;
        stop_next = omega (arith, p.2, n);
        trip_next = omega (arith, p.1, j);
        stop_fits_lem = p.4;
        trip_fits_lem = p.3;
        row_fits = omega (arith, p.5, i);
        rows = h.rows;
        row_next = omega (arith, p.5, i);
      }

  is_in : plan_in b room at v s t ≡ d
  unfolding plan_in
  is_in = sym y

  pub took_kept : (n : Numbers) → d ≡ Ok n → {r : Result Reached Fault} (at' : Reached) {x' s' t' : List ℕ} → r ≡ Ok at'
      → at' ≡ after_entry at (record { trip = n.trip; stop = n.stop; line = v })
      → x' ≡ with_bytes x (4 * at.times) (n.trip ∷ n.stop ∷ v.arrival ∷ v.departure ∷ [])
      → Booked b b (stop_shelf room at') s s' (names_with (names_in b b (stop_shelf room at) s) n.stop (text_at b v.stop))
      → Booked b b (trip_shelf room at') t t' (names_with (names_in b b (trip_shelf room at) t) n.trip (text_at b v.trip))
      → Takes b room at v r x s t x' s' t'
  unfolding took_by
  took_kept e z at' q a xs ss ts = record {
    said = q ∙ rw (is_in, z, ← a);
    left = rw (is_in, z, ← a) (xs, ss, ts);
  }

  pub took_not : (f : Fault) → d ≡ Err f → (r : Result Reached Fault) → IsErrAnd r (λ e. e ≡ f) → Takes b room at v r x s t x s t
  unfolding took_by
  took_not f z r h =
      let (e, q, w) = err_from_is_err_and r h in
      record { said = q ∙ rw (is_in, z, w); left = rw (is_in, z) (refl, refl, refl) }
