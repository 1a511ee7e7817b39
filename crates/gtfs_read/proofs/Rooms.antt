-- The room of what is lent.
-- Assumes nothing.
use Prim.Native.Nat.{ℕ, ◌*◌, ◌/◌, ◌≤◌}
use mathlib.Core.Path.{◌≡◌}
use mathlib.Core.List.{List}
use native.Mathlib.Omega.{arith}
use lib.Dec.{leb}
use lib.ListN.{length}
use borrow.Author.Tests.{leb-true, leb-false}
use Rattle.base.proofs.Choice.{split}
use Rattle.model.specs.Limits.{MOST_STOPS, MOST_TRIPS, MOST_STOP_TIMES, MOST_TRANSFERS}
use Rattle.feed.specs.declared.Room.{Room}
use Rattle.gtfs_read.specs.Reads.{lent_feed, rows_of, feed_room}
use Rattle.gtfs_read.specs.Parts.{FilesLent}

pub rows_inside : (w : List ℕ) (most : ℕ) → 4 * rows_of w most ≤ length w
unfolding rows_of
rows_inside w most =
    split (leb (length w / 4) most)
    (λ e. rw e (omega arith))
    (λ e. rw e (omega (arith, leb-false (length w / 4) most e)))

pub rows_most : (w : List ℕ) (most : ℕ) → rows_of w most ≤ most
unfolding rows_of
rows_most w most =
    split (leb (length w / 4) most)
    (λ e. rw e (leb-true (length w / 4) most e))
    (λ e. rw e (omega arith))

pub files_lent : (room : Room) (a b x y s t : List ℕ) → room ≡ feed_room (lent_feed x y s t) → length a ≤ 4_294_967_295 → length b ≤ 4_294_967_295
    → FilesLent room a b x y s t
unfolding feed_room
files_lent room a b x y s t e h k =
    rw e
    (record {
      first_short = h;
      second_short = k;
      small = omega (arith, rows_most x MOST_STOP_TIMES);
      rows = rows_inside x MOST_STOP_TIMES;
      paths = rows_inside y MOST_TRANSFERS;
      stop_words = rows_inside s MOST_STOPS;
      trip_words = rows_inside t MOST_TRIPS;
    })
