-- "numbers stops and trips in order of first appearance": the text of each number stands where the book says, and two numbers have two texts.
-- Assumes nothing.
use Prim.Native.Nat.{ℕ, ◌<◌}
use mathlib.Core.Path.{◌≡◌, sym, ap, ◌∙◌}
use mathlib.Core.Bool.{true, false}
use mathlib.Core.List.{List, []}
use native.Mathlib.Omega.{arith}
use lib.ListN.{length, get_or}
use borrow.Author.Tests.{le-ltb}
use Rattle.base.proofs.Choice.{split}
use Rattle.names.specs.Book.{file_of, name_at, Book}
use Rattle.names.proofs.Booking.{booked_name}
use Rattle.feed.specs.Reading.{read_feed}
use Rattle.feed.specs.Undoubled.{undoubled, StandApart}
use Rattle.feed.proofs.Apart.{stops_apart, trips_apart}
use Rattle.gtfs_read.specs.declared.Told.{Told}
use Rattle.gtfs_read.specs.Reads.{LentFeed, feed_room, is_too_long, refused_long, stops_shelf, trips_shelf, Reads}
use Rattle.gtfs_promises.specs.Answers.{BothShort}
use Rattle.gtfs_promises.specs.Tables.{stop_book, trip_book, StandsIn}
use Rattle.gtfs_promises.proofs.Keeps.{short_test, long_told, given, stops_told, trips_told, stop_shelf, trip_shelf}

-- texts of different names are different
texts_differ : (names : List (List ℕ)) → StandApart names → (text : ℕ → List ℕ) {n : ℕ} → n ≡ length names
    → ((i : ℕ) → i < n → text i ≡ get_or names i []) → (i j : ℕ) → i < n → j < n → undoubled (text i) ≡ undoubled (text j) → i ≡ j
texts_differ names s text z f i j h k e =
    s.apart i j (omega arith) (omega arith) (sym (ap undoubled (f i h)) ∙ e ∙ ap undoubled (f j k))

module _ {a b : List ℕ} {l : LentFeed} {r : Told} {l' : LentFeed} (m : Reads a b l r l') where
  module _ (s : is_too_long a b ≡ false) where
    stop_text : (i : ℕ) → i < r.stops → name_at a b (stop_book l r) l'.stops i ≡ get_or (given m s).feed.stops i []
    unfolding stops_shelf
    stop_text i h = rw (← stop_shelf m s) (booked_name (m.read s).stops_left_lem i (rw (stops_told m s) at h))

    trip_text : (i : ℕ) → i < r.trips → name_at a a (trip_book l r) l'.trips i ≡ get_or (given m s).feed.trips i []
    unfolding trips_shelf
    trip_text i h = rw (← trip_shelf m s) (booked_name (m.read s).trips_left_lem i (rw (trips_told m s) at h))

  no_stops : is_too_long a b ≡ true → r.stops ≡ 0
  unfolding refused_long
  no_stops s = ap (λ (x : Told). x.stops) (long_told m s)

  no_trips : is_too_long a b ≡ true → r.trips ≡ 0
  unfolding refused_long
  no_trips s = ap (λ (x : Told). x.trips) (long_told m s)

  -- ---- the promises
  -- the text at the book's place i is the i-th name
  pub stop_name : BothShort a b → (i : ℕ) → i < r.stops
      → name_at a b (stop_book l r) l'.stops i ≡ get_or (read_feed (feed_room l) a b).feed.stops i []
  stop_name h = stop_text (short_test h)

  pub trip_name : BothShort a b → (i : ℕ) → i < r.trips
      → name_at a a (trip_book l r) l'.trips i ≡ get_or (read_feed (feed_room l) a b).feed.trips i []
  trip_name h = trip_text (short_test h)

  -- and that place is inside the file
  pub stop_place : (i : ℕ) → i < r.stops → StandsIn (file_of a b r.split i) (feed_room l).stops l'.stops i
  unfolding stop_book
  stop_place i h =
      split (is_too_long a b)
      (λ s. absurd (omega (arith, no_stops s)))
      (λ s. let k : Book a b (stop_book l r) l'.stops = rw (← stop_shelf m s) (m.read s).stops_left_lem.book in
      record { ordered = k.ordered i h; inside = k.inside i h })

  pub trip_place : (i : ℕ) → i < r.trips → StandsIn a (feed_room l).trips l'.trips i
  unfolding trip_book file_of
  trip_place i h =
      split (is_too_long a b)
      (λ s. absurd (omega (arith, no_trips s)))
      (λ s. let k : Book a a (trip_book l r) l'.trips = rw (← trip_shelf m s) (m.read s).trips_left_lem.book in
      record { ordered = k.ordered i h; inside = rw (le-ltb i 0 (omega arith)) at (k.inside i h) })

  -- two stops, or two trips, with the same text are the same, also where a doubled quote is read as one
  pub stops_differ : (i j : ℕ) → i < r.stops → j < r.stops
      → undoubled (name_at a b (stop_book l r) l'.stops i) ≡ undoubled (name_at a b (stop_book l r) l'.stops j) → i ≡ j
  stops_differ i j h k e =
      split (is_too_long a b)
      (λ s. absurd (omega (arith, no_stops s)))
      (λ s. texts_differ (given m s).feed.stops (stops_apart (feed_room l) a b) (name_at a b (stop_book l r) l'.stops)
      (stops_told m s) (stop_text s) i j h k e)

  pub trips_differ : (i j : ℕ) → i < r.trips → j < r.trips
      → undoubled (name_at a a (trip_book l r) l'.trips i) ≡ undoubled (name_at a a (trip_book l r) l'.trips j) → i ≡ j
  trips_differ i j h k e =
      split (is_too_long a b)
      (λ s. absurd (omega (arith, no_trips s)))
      (λ s. texts_differ (given m s).feed.trips (trips_apart (feed_room l) a b) (name_at a a (trip_book l r) l'.trips)
      (trips_told m s) (trip_text s) i j h k e)
