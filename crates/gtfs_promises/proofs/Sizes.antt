-- What is written of rows that are in order fits a file that can be read.
-- Assumes nothing.
use Prim.Native.Nat.{ℕ, suc, ◌+◌, ◌*◌, ◌≤◌}
use mathlib.Core.Path.{◌≡◌, refl}
use mathlib.Core.Bool.{true}
use mathlib.Core.List.{List, [], ◌∷◌}
use native.Mathlib.Omega.{arith}
use lib.Dec.{leb, eqb}
use lib.ListN.{length, length-append}
use borrow.Author.Tests.{eqb-true, leb-true, ltb-true}
use Rattle.base.proofs.Choice.{split, and_left}
use Rattle.numbers.proofs.Written.{digits_few}
use Rattle.feed.specs.Columns.{trip_id, arrival_time, departure_time, stop_id, stop_sequence, from_stop_id, to_stop_id, transfer_type, min_transfer_time}
use Rattle.feed.specs.Feed.{TimeRow, TransferRow}
use Rattle.feed.specs.Transfers.{UNSTATED}
use Rattle.feed.specs.Rows.{time_with, transfer_with}
use Rattle.feed.specs.Orderly.{Seen, none_seen, after_time, after_times, times_fault, fits_span, after_transfer, transfers_fault, Orderly}
use Rattle.feed.specs.Writing.{line_with, position_after, time_text, times_text, times_header, write_times, span_text, transfer_text, transfers_text}
use Rattle.feed.specs.Writing.{transfers_header, write_transfers}
use Rattle.feed.proofs.Faultless.{stop_inside, trip_inside, TimeRight, time_right, times_first, times_rest, TransferRight, transfer_right}
use Rattle.feed.proofs.Faultless.{transfers_first, transfers_rest}
use Rattle.gtfs_write.specs.Written.{LIMITS}
use Rattle.gtfs_write_times.proofs.Lines.{time_long}
use Rattle.gtfs_write_transfers.proofs.Texts.{transfer_long}

-- ---- stop times
position_few : (trips v p : ℕ) → position_after trips v p ≤ suc p
unfolding position_after
position_few trips v p = split (eqb (suc v) trips) (λ e. rw e (omega arith)) (λ e. rw e (omega arith))

time_few : (s : Seen) (r : TimeRow) (p : ℕ) → TimeRight LIMITS s r → p ≤ 4_294_967_295 → length (time_text r p) ≤ 51
unfolding time_with
time_few s r p t h =
    let v = trip_inside LIMITS s.trips r.trip t.trip_fits_lem in
    let w = stop_inside LIMITS s.stops r.stop t.stop_fits_lem in
    omega (
      arith,
      time_long r.trip r.stop r.arrival r.departure p,
      digits_few r.trip (omega (arith, v)),
      digits_few r.stop (omega (arith, w)),
      digits_few p h,
    )

times_few : (rs : List TimeRow) (s : Seen) (trips p : ℕ) → times_fault LIMITS s rs ≡ 0 → p + length rs ≤ 4_294_967_295
    → length (times_text rs trips p) ≤ 51 * length rs
unfolding times_text
times_few [] s trips p e h = omega arith
times_few (r ∷ rs) s trips p e h =
    let q = position_after trips r.trip p in
    let g = position_few trips r.trip p in
    omega (
      arith,
      length-append (time_text r q) (times_text rs (suc r.trip) q),
      time_few s r q (time_right LIMITS s r (times_first LIMITS s r rs e)) (omega (arith, g)),
      times_few rs (after_time s r) (suc r.trip) q (times_rest LIMITS s r rs e) (omega (arith, g)),
    )

times_header_long : length times_header ≡ 58
unfolding times_header line_with trip_id arrival_time departure_time stop_id stop_sequence
times_header_long = refl

-- ---- transfers
span_few : (k x : ℕ) → fits_span k x ≡ true → length (span_text k x) ≤ 10
unfolding fits_span span_text
span_few k x e =
    split (eqb k 2)
    (λ t. rw t (digits_few x (omega (arith, ltb-true x UNSTATED (rw t at e)))))
    (λ t. rw t (omega arith))

kind_few : (k x : ℕ) → fits_span k x ≡ true → k ≤ 5
unfolding fits_span
kind_few k x e =
    split (eqb k 2)
    (λ t. omega (arith, eqb-true k 2 t))
    (λ t. leb-true k 5 (and_left (leb k 5) (eqb x UNSTATED) (rw t at e)))

transfer_few : (stops : ℕ) (r : TransferRow) → TransferRight LIMITS stops r → length (transfer_text r) ≤ 44
unfolding transfer_with
transfer_few stops r t =
    let v = stop_inside LIMITS stops r.from t.from_fits in
    let w = stop_inside LIMITS _ r.to t.to_fits in
    omega (
      arith,
      transfer_long r.from r.to r.kind r.span,
      digits_few r.from (omega (arith, v)),
      digits_few r.to (omega (arith, w)),
      digits_few r.kind (omega (arith, kind_few r.kind r.span t.span_fits)),
      span_few r.kind r.span t.span_fits,
    )

transfers_few : (rs : List TransferRow) (stops : ℕ) → transfers_fault LIMITS stops rs ≡ 0 → length (transfers_text rs) ≤ 44 * length rs
unfolding transfers_text
transfers_few [] stops e = omega arith
transfers_few (r ∷ rs) stops e =
    omega (
      arith,
      length-append (transfer_text r) (transfers_text rs),
      transfer_few stops r (transfer_right LIMITS stops r (transfers_first LIMITS stops r rs e)),
      transfers_few rs (after_transfer stops r) (transfers_rest LIMITS stops r rs e),
    )

transfers_header_long : length transfers_header ≡ 56
unfolding transfers_header line_with from_stop_id to_stop_id transfer_type min_transfer_time
transfers_header_long = refl

-- ---- both files
module _ (ts : List TimeRow) (xs : List TransferRow) (o : Orderly LIMITS ts xs) where
  pub times_short : length (write_times ts) ≤ 4_294_967_295
  unfolding write_times
  times_short =
      omega (
        arith,
        length-append times_header (times_text ts 0 0),
        times_header_long,
        times_few ts none_seen 0 0 o.times_right (omega (arith, o.few_times)),
        o.few_times,
      )

  pub transfers_short : length (write_transfers xs) ≤ 4_294_967_295
  unfolding write_transfers
  transfers_short =
      omega (
        arith,
        length-append transfers_header (transfers_text xs),
        transfers_header_long,
        transfers_few xs (after_times none_seen ts).stops o.transfers_right,
        o.few_transfers,
      )
