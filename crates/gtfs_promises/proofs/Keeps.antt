-- What is left of files that are not too long: the feed that their lines give, and nothing else.
-- Assumes nothing.
use Prim.Native.Nat.{ℕ, ◌+◌, ◌*◌, ◌≤◌}
use mathlib.Core.Path.{◌≡◌, ap, ◌∙◌}
use mathlib.Core.Bool.{true, false, true≢false}
use mathlib.Core.List.{List}
use native.Mathlib.Omega.{arith}
use lib.Dec.{ltb}
use lib.ListN.{length, take, drop}
use borrow.Author.Tests.{ltb-true, ltb-false, lt-ltb, le-ltb}
use Rattle.base.specs.Put.{with_bytes}
use Rattle.base.proofs.Choice.{split}
use Rattle.base.proofs.Put.{put_upto, put_after}
use Rattle.feed.specs.Feed.{Got}
use Rattle.feed.specs.Reading.{read_feed}
use Rattle.feed.specs.Rows.{flat_times, flat_transfers}
use Rattle.feed.proofs.Rows.{flat_times_length, flat_transfers_length}
use Rattle.feed.proofs.Standing.{within_room}
use Rattle.gtfs_read.specs.declared.Told.{Told}
use Rattle.gtfs_read.specs.Reads.{LentFeed, feed_room, is_too_long, told_by, split_of, refused_long, told_feed, stops_shelf, trips_shelf, Left, Reads}
use Rattle.gtfs_promises.specs.Answers.{TooLong, first_long, second_long, BothShort}
use Rattle.gtfs_promises.specs.Tables.{time_words_read, transfer_words_read, stop_book, trip_book, Holds}
use Rattle.gtfs_promises.proofs.Rooms.{rows_inside}

-- ---- the length of the files
module _ {a b : List ℕ} where
  pub long_test : TooLong a b → is_too_long a b ≡ true
  unfolding is_too_long
  long_test (first_long h) = rw (lt-ltb 4_294_967_295 (length a) h)
  long_test (second_long h) =
      split (ltb 4_294_967_295 (length a)) (λ e. rw e) (λ e. rw (e, lt-ltb 4_294_967_295 (length b) h))

  pub short_test : BothShort a b → is_too_long a b ≡ false
  unfolding is_too_long
  short_test h = rw (le-ltb 4_294_967_295 (length a) h.first_short, le-ltb 4_294_967_295 (length b) h.second_short)

  pub test_long : is_too_long a b ≡ true → TooLong a b
  unfolding is_too_long
  test_long e =
      split (ltb 4_294_967_295 (length a))
      (λ t. first_long (ltb-true 4_294_967_295 (length a) t))
      (λ t. second_long (ltb-true 4_294_967_295 (length b) (rw t at e)))

  pub test_short : is_too_long a b ≡ false → BothShort a b
  unfolding is_too_long
  test_short e =
      split (ltb 4_294_967_295 (length a))
      (λ t. absurd (true≢false (rw t at e)))
      (λ t. record { first_short = ltb-false 4_294_967_295 (length a) t; second_short = ltb-false 4_294_967_295 (length b) (rw t at e) })

-- ---- rows put at the front of a table
module _ (w v p : List ℕ) (n : ℕ) (e : v ≡ with_bytes w 0 p) (s : length p ≡ 4 * n) (h : 4 * n ≤ length w) where
  inside : 0 + length p ≤ length w
  inside = omega arith

  to : 0 + length p ≡ 4 * n
  to = omega arith

  pub front_of : take (4 * n) v ≡ p
  front_of = rw (← to, e) (put_upto w 0 p inside)

  pub behind_front : drop (4 * n) v ≡ drop (4 * n) w
  behind_front = rw (← to, e) (put_after w 0 p inside)

module _ {a b : List ℕ} {l : LentFeed} {r : Told} {l' : LentFeed} (m : Reads a b l r l') where
  -- a file that is too long
  pub long_told : is_too_long a b ≡ true → r ≡ refused_long
  unfolding told_feed
  long_told e = m.said ∙ rw e

  module _ (short : is_too_long a b ≡ false) where
    -- what the files give
    abbrev pub given : Got
    given = read_feed (feed_room l) a b

    pub short_told : r ≡ told_by (split_of (feed_room l) a) given
    unfolding told_feed
    short_told = m.said ∙ rw short

    -- what the answer counts
    pub stops_told : r.stops ≡ length given.feed.stops
    unfolding told_by
    stops_told = ap (λ (x : Told). x.stops) short_told

    pub split_told : r.split ≡ split_of (feed_room l) a
    unfolding told_by
    split_told = ap (λ (x : Told). x.split) short_told

    pub trips_told : r.trips ≡ length given.feed.trips
    unfolding told_by
    trips_told = ap (λ (x : Told). x.trips) short_told

    pub times_told : r.times ≡ length given.feed.times
    unfolding told_by
    times_told = ap (λ (x : Told). x.times) short_told

    pub transfers_told : r.transfers ≡ length given.feed.transfers
    unfolding told_by
    transfers_told = ap (λ (x : Told). x.transfers) short_told

    left : Left (feed_room l) a b given l l'
    left = m.read short

    pub stop_shelf : stops_shelf (feed_room l) (split_of (feed_room l) a) given ≡ stop_book l r
    unfolding stops_shelf stop_book
    stop_shelf = rw (← stops_told, ← split_told)

    pub trip_shelf : trips_shelf (feed_room l) given ≡ trip_book l r
    unfolding trips_shelf trip_book
    trip_shelf = rw (← trips_told)

    times_fit : 4 * length given.feed.times ≤ length l.times
    unfolding feed_room
    times_fit = omega (arith, (within_room (feed_room l) a b).times, rows_inside l.times 262_144)

    transfers_fit : 4 * length given.feed.transfers ≤ length l.transfers
    unfolding feed_room
    transfers_fit = omega (arith, (within_room (feed_room l) a b).transfers, rows_inside l.transfers 16_384)

    pub read_holds : Holds a b l r l' given.feed
    unfolding time_words_read transfer_words_read stops_shelf trips_shelf
    read_holds =
        let ts = given.feed.times in
        let xs = given.feed.transfers in
        let n = flat_times_length ts in
        let k = flat_transfers_length xs in
        record {
          stops_counted = stops_told;
          trips_counted = trips_told;
          times_counted = times_told;
          transfers_counted = transfers_told;
          time_rows = rw times_told (front_of l.times l'.times (flat_times ts) (length ts) left.times_left n times_fit);
          transfer_rows = rw transfers_told
              (front_of l.transfers l'.transfers (flat_transfers xs) (length xs) left.transfers_left k transfers_fit);
          stop_names = rw (← stop_shelf) left.stops_left_lem.texts;
          trip_names = rw (← trip_shelf) left.trips_left_lem.texts;
          behind_times = rw times_told
              (behind_front l.times l'.times (flat_times ts) (length ts) left.times_left n times_fit);
          behind_transfers = rw transfers_told
              (behind_front l.transfers l'.transfers (flat_transfers xs) (length xs) left.transfers_left k transfers_fit);
          behind_stops = rw stops_told left.stops_left_lem.past;
          behind_trips = rw trips_told left.trips_left_lem.past;
        }
