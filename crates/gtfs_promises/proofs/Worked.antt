-- A worked reading, word for word: the contract of `read` holds of it, so what the promises suppose of a reader can be met.
-- Assumes nothing.
use Prim.Native.Nat.{ℕ, zero, suc, ◌≤◌, ◌<◌}
use mathlib.Core.Path.{◌≡◌, refl, sym, ◌∙◌}
use mathlib.Core.Bool.{false≢true}
use mathlib.Core.List.{[], ◌∷◌}
use native.Mathlib.Omega.{arith}
use lib.ListN.{length, get_or}
use Rattle.base.specs.Tab.{tab}
use Rattle.base.specs.Put.{with_bytes}
use Rattle.csv_text.specs.Part.{part}
use Rattle.names.specs.declared.Shelf.{Shelf}
use Rattle.names.specs.Book.{hash_from, slot_of, last_in, start_at, end_at, next_at, file_of, name_at, names_in, Book}
use Rattle.names.specs.Booked.{Booked}
use Rattle.feed.specs.Rows.{flat_by, time_words, flat_times, transfer_words, flat_transfers}
use Rattle.feed.specs.Orderly.{seen_after, after_time, after_times}
use Rattle.feed.specs.Reading.{read_feed}
use Rattle.feed.proofs.Examples.{bytes}
use Rattle.gtfs_read.specs.declared.Told.{Told}
use Rattle.std.specs.Prelude.{Ok}
use Rattle.gtfs_read.specs.Reads.{LentFeed, lent_feed, rows_of, feed_room, ended_as, told_by, split_of, told_feed}
use Rattle.gtfs_read.specs.Reads.{stops_shelf, trips_shelf, Left, Reads}
use Rattle.gtfs_promises.proofs.Keeps.{short_test}
use Rattle.gtfs_promises.proofs.Splits.{split_counts}
use Rattle.gtfs_promises.proofs.Witness.{RIDES, WALKS, lent_for, short_rides, rides_ended, rides_read, walks_read, stops_read, trips_read}

-- what was lent: sevens. A and D fall into slot 2, so D, the last, is that slot's head, and one more than A's number stands behind its place
abbrev pub WORKED : LentFeed
WORKED =
    lent_feed
    (0 ∷ 0 ∷ 115_200 ∷ 115_500 ∷ 0 ∷ 1 ∷ 115_800 ∷ 115_800 ∷ [])
    (1 ∷ 2 ∷ 2 ∷ 60 ∷ [])
    (2 ∷ 0 ∷ 3 ∷ 76 ∷ 77 ∷ 0 ∷ 98 ∷ 99 ∷ 0 ∷ 58 ∷ 59 ∷ 1 ∷ [])
    (1 ∷ 58 ∷ 59 ∷ 0 ∷ [])

abbrev pub ANSWER : Told
ANSWER = record { ending = Ok tt; stops = 3; split = 2; trips = 1; times = 2; transfers = 1 }

-- ---- the books
-- by each number below three
three : (P : ℕ → Type 0) → P 0 → P 1 → P 2 → (i : ℕ) → i < 3 → P i
three P x y z zero h = x
three P x y z (suc zero) h = y
three P x y z (suc (suc zero)) h = z
three P x y z (suc (suc (suc i))) h = absurd (omega arith)

one : (P : ℕ → Type 0) → P 0 → (i : ℕ) → i < 1 → P i
one P x zero h = x
one P x (suc i) h = absurd (omega arith)

abbrev STOPS : Shelf
STOPS = record { cap = 3; split = 2; count = 3 }

abbrev TRIPS : Shelf
TRIPS = record { cap = 1; split = 0; count = 1 }

stops_book : Book RIDES WALKS STOPS WORKED.stops
unfolding hash_from slot_of last_in file_of name_at part RIDES WALKS bytes
stops_book = record {
  few = omega arith;
  room = omega arith;
  ordered = three (λ i. start_at 3 WORKED.stops i ≤ end_at 3 WORKED.stops i) (omega arith) (omega arith) (omega arith);
  inside =
      three (λ i. end_at 3 WORKED.stops i ≤ length (file_of RIDES WALKS 2 i)) (omega arith) (omega arith) (omega arith);
  heads =
      three (λ b. get_or WORKED.stops b 0 ≡ last_in 3 (name_at RIDES WALKS STOPS WORKED.stops) b 3) refl refl refl;
  nexts =
      three (λ i. next_at 3 WORKED.stops i
      ≡ last_in 3 (name_at RIDES WALKS STOPS WORKED.stops) (slot_of 3 (name_at RIDES WALKS STOPS WORKED.stops i)) i) refl refl refl;
}

trips_book : Book RIDES RIDES TRIPS WORKED.trips
unfolding hash_from slot_of last_in file_of name_at part RIDES bytes
trips_book = record {
  few = omega arith;
  room = omega arith;
  ordered = one (λ i. start_at 1 WORKED.trips i ≤ end_at 1 WORKED.trips i) (omega arith);
  inside = one (λ i. end_at 1 WORKED.trips i ≤ length (file_of RIDES RIDES 0 i)) (omega arith);
  heads = one (λ b. get_or WORKED.trips b 0 ≡ last_in 1 (name_at RIDES RIDES TRIPS WORKED.trips) b 1) refl;
  nexts =
      one (λ i. next_at 1 WORKED.trips i
      ≡ last_in 1 (name_at RIDES RIDES TRIPS WORKED.trips) (slot_of 1 (name_at RIDES RIDES TRIPS WORKED.trips i)) i) refl;
}

stops_booked : Booked RIDES WALKS STOPS (lent_for 3).stops WORKED.stops (bytes "A" ∷ bytes "B" ∷ bytes "D" ∷ [])
unfolding names_in name_at file_of part tab lent_for RIDES WALKS bytes
stops_booked = record { book = stops_book; texts = refl; long = refl; past = refl }

trips_booked : Booked RIDES RIDES TRIPS (lent_for 3).trips WORKED.trips (bytes "t" ∷ [])
unfolding names_in name_at file_of part tab lent_for RIDES bytes
trips_booked = record { book = trips_book; texts = refl; long = refl; past = refl }

-- ---- the reading
rides_split : split_of (feed_room (lent_for 3)) RIDES ≡ 2
unfolding after_times after_time seen_after
rides_split = split_counts (feed_room (lent_for 3)) RIDES WALKS ∙ rw rides_read

three_stops : (feed_room (lent_for 3)).stops ≡ 3
unfolding feed_room rows_of lent_for tab
three_stops = refl

one_trip : (feed_room (lent_for 3)).trips ≡ 1
unfolding feed_room rows_of lent_for tab
one_trip = refl

answered : ANSWER ≡ told_by (split_of (feed_room (lent_for 3)) RIDES) (read_feed (feed_room (lent_for 3)) RIDES WALKS)
unfolding told_by ended_as
answered = rw (rides_ended, stops_read, trips_read, rides_read, walks_read, rides_split)

rows : WORKED.times ≡ with_bytes (lent_for 3).times 0 (flat_times (read_feed (feed_room (lent_for 3)) RIDES WALKS).feed.times)
unfolding with_bytes flat_times flat_by time_words lent_for tab
rows = rw rides_read

paths : WORKED.transfers ≡ with_bytes (lent_for 3).transfers 0 (flat_transfers (read_feed (feed_room (lent_for 3)) RIDES WALKS).feed.transfers)
unfolding with_bytes flat_transfers flat_by transfer_words lent_for tab
paths = rw walks_read

left : Left (feed_room (lent_for 3)) RIDES WALKS (read_feed (feed_room (lent_for 3)) RIDES WALKS) (lent_for 3) WORKED
unfolding stops_shelf trips_shelf
left = record {
  times_left = rows;
  transfers_left = paths;
  stops_left_lem = rw (stops_read, rides_split, three_stops) stops_booked;
  trips_left_lem = rw (trips_read, one_trip) trips_booked;
}

pub rides_reads : Reads RIDES WALKS (lent_for 3) ANSWER WORKED
unfolding told_feed
rides_reads = record {
  said = rw (short_test short_rides) answered;
  read = λ e. left;
  refused = λ e. absurd (false≢true (sym (short_test short_rides) ∙ e));
}
