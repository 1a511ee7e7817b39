-- The room of what is lent: never above document 01's limits, and within the lent words.
-- Assumes nothing.
use Prim.Native.Nat.{ℕ, ◌*◌, ◌/◌, ◌≤◌}
use mathlib.Core.Path.{◌≡◌}
use mathlib.Core.List.{List}
use native.Mathlib.Omega.{arith}
use lib.Dec.{leb}
use lib.ListN.{length}
use borrow.Author.Tests.{leb-true, leb-false}
use Rattle.base.proofs.Choice.{split}
use Rattle.feed.specs.Promised.{Countable, Wider}
use Rattle.gtfs_read.specs.Reads.{LentFeed, rows_of, feed_room}
use Rattle.gtfs_write.specs.Written.{LIMITS}
use Rattle.gtfs_promises.specs.Tables.{SameSizes, FullSize}

module _ (w : List ℕ) (most : ℕ) where
  rows_most : rows_of w most ≤ most
  unfolding rows_of
  rows_most = split (leb (length w / 4) most) (λ e. rw e (leb-true (length w / 4) most e)) (λ e. rw e (omega arith))

  pub rows_inside : 4 * rows_of w most ≤ length w
  unfolding rows_of
  rows_inside =
      split (leb (length w / 4) most)
      (λ e. rw e (omega arith))
      (λ e. rw e (omega (arith, leb-false (length w / 4) most e)))

  rows_all : 4 * most ≤ length w → rows_of w most ≡ most
  unfolding rows_of
  rows_all h =
      split (leb (length w / 4) most)
      (λ e. rw e (omega (arith, leb-true (length w / 4) most e)))
      (λ e. rw e)

rows_same : (v w : List ℕ) (most : ℕ) → length v ≡ length w → rows_of v most ≡ rows_of w most
unfolding rows_of
rows_same v w most e = rw e

module _ (l : LentFeed) where
  pub room_within : Wider (feed_room l) LIMITS
  unfolding feed_room
  room_within = record {
    stops = rows_most l.stops 4_096;
    trips = rows_most l.trips 16_384;
    times = rows_most l.times 262_144;
    transfers = rows_most l.transfers 16_384;
  }

  pub room_countable : Countable (feed_room l)
  room_countable =
      let w = room_within in
      record {
        stops = omega (arith, w.stops);
        trips = omega (arith, w.trips);
        times = omega (arith, w.times);
        transfers = omega (arith, w.transfers);
      }

  pub full_room : FullSize l → feed_room l ≡ LIMITS
  unfolding feed_room
  full_room h =
      rw (
        rows_all l.stops 4_096 h.stops_room,
        rows_all l.trips 16_384 h.trips_room,
        rows_all l.times 262_144 h.times_room,
        rows_all l.transfers 16_384 h.transfers_room,
      )

  pub same_room : {m : LentFeed} → SameSizes l m → feed_room m ≡ feed_room l
  unfolding feed_room
  same_room {m} h =
      rw (
        rows_same m.stops l.stops 4_096 h.stops_size,
        rows_same m.trips l.trips 16_384 h.trips_size,
        rows_same m.times l.times 262_144 h.times_size,
        rows_same m.transfers l.transfers 16_384 h.transfers_size,
      )
