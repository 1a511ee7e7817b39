-- Rows that are orderly in a room are orderly in a wider one.
-- Assumes nothing.
use Prim.Native.Nat.{ℕ, suc}
use mathlib.Core.Path.{◌≡◌, refl}
use mathlib.Core.Bool.{true, ◌||◌}
use mathlib.Core.List.{List, [], ◌∷◌}
use native.Mathlib.Omega.{arith}
use lib.Dec.{ltb, eqb}
use borrow.Author.Tests.{lt-ltb, le-leb}
use Rattle.base.proofs.Choice.{and_left}
use Rattle.feed.specs.declared.Room.{Room}
use Rattle.feed.specs.Feed.{TimeRow, TransferRow}
use Rattle.feed.specs.Orderly.{Seen, none_seen, seen_after, stop_fits, trip_fits, time_fault, after_time, times_fault, after_times, transfer_fault, after_transfer, transfers_fault, Orderly}
use Rattle.feed.specs.Promised.{Wider}
use Rattle.feed.proofs.Faultless.{stop_known, stop_inside, trip_inside, time_right, times_first, times_rest, transfer_right, transfers_first, transfers_rest}

module _ (room room' : Room) (w : Wider room room') where
  stop_wider : (n s : ℕ) → stop_fits room n s ≡ true → stop_fits room' n s ≡ true
  unfolding stop_fits
  stop_wider n s e =
      rw (le-leb s n (stop_known room n s e), lt-ltb s room'.stops (omega (arith, stop_inside room n s e, w.stops)))

  trip_wider : (n v : ℕ) → trip_fits room n v ≡ true → trip_fits room' n v ≡ true
  unfolding trip_fits
  trip_wider n v e =
      rw (and_left (eqb (suc v) n || eqb v n) (ltb v room.trips) e, lt-ltb v room'.trips (omega (arith, trip_inside room n v e, w.trips)))

  time_wider : (s : Seen) (r : TimeRow) → time_fault room s r ≡ 0 → time_fault room' s r ≡ 0
  unfolding time_fault
  time_wider s r e =
      let t = time_right room s r e in
      rw (stop_wider s.stops r.stop t.stop_fits_lem, trip_wider s.trips r.trip t.trip_fits_lem, t.arrival, t.departure)

  times_wider : (rs : List TimeRow) (s : Seen) → times_fault room s rs ≡ 0 → times_fault room' s rs ≡ 0
  unfolding times_fault
  times_wider [] s e = refl
  times_wider (r ∷ rs) s e =
      rw (time_wider s r (times_first room s r rs e), times_fault) (times_wider rs (after_time s r) (times_rest room s r rs e))

  transfer_wider : (stops : ℕ) (r : TransferRow) → transfer_fault room stops r ≡ 0 → transfer_fault room' stops r ≡ 0
  unfolding transfer_fault
  transfer_wider stops r e =
      let t = transfer_right room stops r e in
      rw (stop_wider stops r.from t.from_fits, stop_wider (seen_after stops r.from) r.to t.to_fits, t.span_fits)

  transfers_wider : (rs : List TransferRow) (stops : ℕ) → transfers_fault room stops rs ≡ 0 → transfers_fault room' stops rs ≡ 0
  unfolding transfers_fault
  transfers_wider [] stops e = refl
  transfers_wider (r ∷ rs) stops e =
      rw (transfer_wider stops r (transfers_first room stops r rs e), transfers_fault)
      (transfers_wider rs (after_transfer stops r) (transfers_rest room stops r rs e))

pub orderly_wider : (room room' : Room) (ts : List TimeRow) (xs : List TransferRow) → Wider room room' → Orderly room ts xs → Orderly room' ts xs
orderly_wider room room' ts xs w o = record {
  few_times = omega (arith, w.times, o.few_times);
  few_transfers = omega (arith, w.transfers, o.few_transfers);
  times_right = times_wider room room' w ts none_seen o.times_right;
  transfers_right = transfers_wider room room' w xs (after_times none_seen ts).stops o.transfers_right;
}
