-- "A writer puts the rows back ..; reading that gives the same tables": over the contracts of the reader and the writers.
-- Assumes nothing.
use Prim.Native.Nat.{ℕ, ◌%◌}
use mathlib.Core.Path.{◌≡◌, sym, ap, ◌∙◌}
use mathlib.Core.Bool.{false}
use mathlib.Core.List.{List}
use native.Mathlib.Omega.{arith}
use lib.ListN.{length, take}
use Rattle.feed.specs.Feed.{TimeRow, TransferRow}
use Rattle.feed.specs.Orderly.{none_seen, times_fault, transfers_fault, Orderly}
use Rattle.feed.specs.Rows.{time_with, time_rows_in, flat_times, transfer_with, transfer_rows_in, flat_transfers}
use Rattle.feed.specs.Writing.{write_times, write_transfers}
use Rattle.feed.specs.Promised.{Rereads}
use Rattle.feed.proofs.Rows.{fours_length, flat_times_lem, flat_transfers_lem}
use Rattle.feed.proofs.RoundTrip.{written_reads}
use Rattle.feed.proofs.Widening.{orderly_wider}
use Rattle.gtfs_read.specs.declared.Told.{Told}
use Rattle.gtfs_read.specs.Reads.{LentFeed, feed_room, is_too_long, number_for, line_for, file_for, split_of, Reads}
use Rattle.std.specs.Prelude.{Ok}
use Rattle.gtfs_write.specs.Written.{LIMITS, whole_rows}
use Rattle.gtfs_write_times.specs.WrittenTimes.{written_times}
use Rattle.gtfs_write_transfers.specs.WrittenTransfers.{written_transfers}
use Rattle.gtfs_promises.specs.Answers.{AnswersWith}
use Rattle.gtfs_promises.specs.Tables.{time_words_read, transfer_words_read, stops_in, trips_in, stops_in_both, WroteTimes, WroteTransfers, GivesBack}
use Rattle.gtfs_promises.specs.Tables.{SameTables, SameSizes, FullSize}
use Rattle.gtfs_promises.proofs.Rooms.{room_within, room_countable, full_room, same_room}
use Rattle.gtfs_promises.proofs.Keeps.{short_test, given, short_told, stops_told, split_told, trips_told, times_told, transfers_told, read_holds}
use Rattle.gtfs_promises.proofs.Numbers.{told_says}
use Rattle.gtfs_promises.proofs.Splits.{split_counts}
use Rattle.gtfs_promises.proofs.Sizes.{times_short, transfers_short}
use Rattle.gtfs_promises.proofs.InOrder.{read_in_order}
use Rattle.gtfs_promises.proofs.Wrote.{Accepts, accepted, text_held, whole_of}

-- ---- rows in order, as text, read again
module _ (w x : List ℕ) {l : LentFeed} {r : Told} {l' : LentFeed} (o : Orderly (feed_room l) (time_rows_in w) (transfer_rows_in x))
    (m : Reads (write_times (time_rows_in w)) (write_transfers (transfer_rows_in x)) l r l') where
  abbrev ts : List TimeRow
  ts = time_rows_in w

  abbrev xs : List TransferRow
  xs = transfer_rows_in x

  short : is_too_long (write_times ts) (write_transfers xs) ≡ false
  short =
      let o' = orderly_wider (feed_room l) LIMITS ts xs (room_within l) o in
      short_test (record { first_short = times_short ts xs o'; second_short = transfers_short ts xs o' })

  back : Rereads (feed_room l) ts xs (given m short)
  back = written_reads (feed_room l) ts xs (room_countable l) o

  text_says : AnswersWith r 0 0 0
  unfolding number_for line_for file_for
  text_says =
      let s = told_says (split_of (feed_room l) (write_times ts)) (given m short) (short_told m short) in
      rw back.ended at s

  split_named : r.split ≡ stops_in w
  unfolding stops_in
  split_named = split_told m short ∙ split_counts (feed_room l) (write_times ts) (write_transfers xs) ∙ rw back.times

  pub text_gives_back : length w % 4 ≡ 0 → length x % 4 ≡ 0 → GivesBack w x r l'
  unfolding stops_in trips_in stops_in_both time_rows_in transfer_rows_in
  text_gives_back p q = record {
    ended = text_says;
    stops_back = stops_told m short ∙ back.stops;
    split_back = split_named;
    trips_back = trips_told m short ∙ back.trips;
    times_counted = times_told m short ∙ ap length back.times ∙ fours_length time_with w;
    transfers_counted = transfers_told m short ∙ ap length back.transfers ∙ fours_length transfer_with x;
    times_back = (read_holds m short).time_rows ∙ ap flat_times back.times ∙ flat_times_lem w p;
    transfers_back = (read_holds m short).transfer_rows ∙ ap flat_transfers back.transfers ∙ flat_transfers_lem x q;
  }

-- ---- what the writers have found
times_accepted : {w out out' : List ℕ} {n : ℕ} → WroteTimes w out (Ok n) out'
    → Accepts (whole_rows 262_144 w) (times_fault LIMITS none_seen (time_rows_in w)) (length (write_times (time_rows_in w))) (length out) n
unfolding written_times
times_accepted {w} {out} h =
    accepted (whole_rows 262_144 w) (times_fault LIMITS none_seen (time_rows_in w)) (length (write_times (time_rows_in w))) (length out) h.said

pub times_text_lem : {w out out' : List ℕ} {n : ℕ} → WroteTimes w out (Ok n) out' → take n out' ≡ write_times (time_rows_in w)
times_text_lem {w} {out} {out'} {n} h =
    let z = times_accepted h in text_held n out (write_times (time_rows_in w)) z.bytes z.fits h.held

module _ {w : List ℕ} {stops : ℕ} {out out' : List ℕ} {n : ℕ} (h : WroteTransfers w stops out (Ok n) out') where
  abbrev text : List ℕ
  text = write_transfers (transfer_rows_in w)

  transfers_accepted : Accepts (whole_rows 16_384 w) (transfers_fault LIMITS stops (transfer_rows_in w)) (length text) (length out) n
  unfolding written_transfers
  transfers_accepted = accepted (whole_rows 16_384 w) (transfers_fault LIMITS stops (transfer_rows_in w)) (length text) (length out) h.said

  pub transfers_text_lem : take n out' ≡ write_transfers (transfer_rows_in w)
  transfers_text_lem =
      let z = transfers_accepted in text_held n out (write_transfers (transfer_rows_in w)) z.bytes z.fits h.held

-- ---- any words that the writers take
module _ {w out₁ out₁' : List ℕ} {n₁ : ℕ} (first : WroteTimes w out₁ (Ok n₁) out₁')
    {x out₂ out₂' : List ℕ} {n₂ : ℕ} (second : WroteTransfers x (stops_in w) out₂ (Ok n₂) out₂') where
  pub written_orderly : Orderly LIMITS (time_rows_in w) (transfer_rows_in x)
  unfolding stops_in time_rows_in transfer_rows_in
  written_orderly =
      let p = times_accepted first in
      let q = transfers_accepted second in
      record {
        few_times = omega (arith, fours_length time_with w, (whole_of 262_144 w p.all_rows).few);
        few_transfers = omega (arith, fours_length transfer_with x, (whole_of 16_384 x q.all_rows).few);
        times_right = p.no_fault;
        transfers_right = q.no_fault;
      }

  -- "reading that gives the same tables"
  pub written_gives_back : {l : LentFeed} {r : Told} {l' : LentFeed} → FullSize l → Reads (take n₁ out₁') (take n₂ out₂') l r l'
      → GivesBack w x r l'
  written_gives_back {l} {r} {l'} f m =
      text_gives_back w x
      (rw (full_room l f) written_orderly)
      (rw (times_text_lem first, transfers_text_lem second) at m)
      (whole_of 262_144 w (times_accepted first).all_rows).fours
      (whole_of 16_384 x (transfers_accepted second).all_rows).fours

-- ---- whatever was read
module _ {a b : List ℕ} {l : LentFeed} {r : Told} {l' : LentFeed} (m : Reads a b l r l')
    {out₁ out₁' : List ℕ} {n₁ : ℕ} (first : WroteTimes (time_words_read r l') out₁ (Ok n₁) out₁')
    {out₂ out₂' : List ℕ} {n₂ : ℕ} (second : WroteTransfers (transfer_words_read r l') r.split out₂ (Ok n₂) out₂')
    {k : LentFeed} {r' : Told} {k' : LentFeed} (again : Reads (take n₁ out₁') (take n₂ out₂') k r' k') (sizes : SameSizes l k) where
  reread : GivesBack (time_words_read r l') (transfer_words_read r l') r' k'
  reread =
      let o = read_in_order m in
      text_gives_back (time_words_read r l') (transfer_words_read r l')
      (rw (same_room l sizes) o.orderly)
      (rw (times_text_lem first, transfers_text_lem second) at again)
      (omega (arith, o.times_long))
      (omega (arith, o.transfers_long))

  pub round_trip : SameTables r l' r' k'
  round_trip =
      let o = read_in_order m in
      let g = reread in
      record {
        ended = g.ended;
        same_stops = g.stops_back ∙ sym o.stops_named;
        same_split = g.split_back ∙ sym o.split_named;
        same_trips = g.trips_back ∙ sym o.trips_named;
        same_times = omega (arith, g.times_counted, o.times_long);
        same_transfers = omega (arith, g.transfers_counted, o.transfers_long);
        same_time_rows = g.times_back;
        same_transfer_rows = g.transfers_back;
      }
