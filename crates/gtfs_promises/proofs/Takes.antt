-- The writers take what was read: they refuse it with 15 alone, where the buffer is too short.
-- Assumes nothing.
use Prim.Native.Nat.{ℕ, ◌/◌, ◌%◌, ◌≤◌}
use mathlib.Core.Path.{◌≡◌}
use mathlib.Core.Bool.{true}
use mathlib.Core.List.{List}
use native.Mathlib.Omega.{arith}
use lib.ListN.{length}
use borrow.Author.Tests.{eq-eqb, le-leb}
use Rattle.feed.specs.Orderly.{none_seen, times_fault, transfers_fault, Orderly}
use Rattle.feed.specs.Rows.{time_rows_in, transfer_rows_in}
use Rattle.feed.specs.Writing.{write_times, write_transfers}
use Rattle.feed.proofs.Widening.{orderly_wider}
use Rattle.gtfs_read.specs.declared.Told.{Told}
use Rattle.gtfs_read.specs.Reads.{LentFeed, feed_room, Reads}
use Rattle.std.specs.Prelude.{Result}
use Rattle.gtfs_write.specs.declared.Unwritten.{Unwritten}
use Rattle.gtfs_write.specs.Written.{LIMITS, whole_rows}
use Rattle.gtfs_write_times.specs.WrittenTimes.{written_times}
use Rattle.gtfs_write_transfers.specs.WrittenTransfers.{written_transfers}
use Rattle.gtfs_promises.specs.Tables.{time_words_read, transfer_words_read, stops_in, WroteTimes, WroteTransfers, IfRoom, InOrderRead}
use Rattle.gtfs_promises.proofs.Rooms.{room_within}
use Rattle.gtfs_promises.proofs.InOrder.{read_in_order}
use Rattle.gtfs_promises.proofs.Wrote.{if_room}

rows_true : (most : ℕ) (w : List ℕ) → length w % 4 ≡ 0 → length w / 4 ≤ most → whole_rows most w ≡ true
unfolding whole_rows
rows_true most w h k = rw (eq-eqb (length w % 4) 0 h, le-leb (length w / 4) most k)

module _ {a b : List ℕ} {l : LentFeed} {r : Told} {l' : LentFeed} (m : Reads a b l r l') where
  abbrev w : List ℕ
  w = time_words_read r l'

  abbrev x : List ℕ
  x = transfer_words_read r l'

  order : InOrderRead l r l'
  order = read_in_order m

  orderly_all : Orderly LIMITS (time_rows_in w) (transfer_rows_in x)
  orderly_all = orderly_wider (feed_room l) LIMITS (time_rows_in w) (transfer_rows_in x) (room_within l) order.orderly

  split_right : transfers_fault LIMITS r.split (transfer_rows_in x) ≡ 0
  unfolding stops_in transfer_words_read
  split_right = rw order.split_named orderly_all.transfers_right

  pub times_taken : {out : List ℕ} {q : Result ℕ Unwritten} {out' : List ℕ} → WroteTimes w out q out' → IfRoom (write_times (time_rows_in w)) (length out) q
  unfolding written_times
  times_taken {out} {q} h =
      let n = (room_within l).times in
      if_room (whole_rows 262_144 w) (times_fault LIMITS none_seen (time_rows_in w)) (length out) (write_times (time_rows_in w)) q h.said
      (rows_true 262_144 w (omega (arith, order.times_long)) (omega (arith, order.times_long, order.times_fit, n)))
      orderly_all.times_right

  pub transfers_taken : {out : List ℕ} {q : Result ℕ Unwritten} {out' : List ℕ} → WroteTransfers x r.split out q out'
      → IfRoom (write_transfers (transfer_rows_in x)) (length out) q
  unfolding written_transfers
  transfers_taken {out} {q} h =
      let n = (room_within l).transfers in
      if_room (whole_rows 16_384 x) (transfers_fault LIMITS r.split (transfer_rows_in x)) (length out) (write_transfers (transfer_rows_in x)) q h.said
      (rows_true 16_384 x (omega (arith, order.transfers_long)) (omega (arith, order.transfers_long, order.transfers_fit, n)))
      split_right
