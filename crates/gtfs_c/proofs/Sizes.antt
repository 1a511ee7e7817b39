-- A text that is written fits 32 bits: no row takes more than 51 bytes.
-- Assumes nothing.
use Prim.Native.Nat.{ℕ, zero, suc, ◌+◌, ◌*◌, ◌≤◌, ◌<◌}
use mathlib.Core.Path.{◌≡◌, refl}
use mathlib.Core.Bool.{Bool, true, false}
use mathlib.Core.List.{List, [], ◌∷◌}
use native.Mathlib.Omega.{arith}
use lib.Dec.{eqb, leb, ltb}
use lib.ListN.{length, length-append}
use borrow.Author.Tests.{eqb-true, leb-true, ltb-true}
use Rattle.base.proofs.Choice.{split, and_left}
use Rattle.model.specs.Limits.{MOST_STOP_TIMES, MOST_TRANSFERS}
use Rattle.numbers.proofs.Written.{digits_few}
use Rattle.feed.specs.Feed.{TimeRow, TransferRow}
use Rattle.feed.specs.Columns.{trip_id, arrival_time, departure_time, stop_id, stop_sequence, from_stop_id, to_stop_id, transfer_type, min_transfer_time}
use Rattle.feed.specs.Transfers.{UNSTATED}
use Rattle.feed.specs.Orderly.{Seen, none_seen, seen_after, after_time, times_fault, fits_span, after_transfer, transfers_fault}
use Rattle.feed.specs.Rows.{time_with, time_rows_in, transfer_with, transfer_rows_in}
use Rattle.feed.specs.Writing.{line_with, position_after, time_text, times_text, times_header, write_times, span_text, transfer_text, transfers_text, transfers_header, write_transfers}
use Rattle.feed.proofs.Rows.{fours_length}
use Rattle.feed.proofs.Faultless.{TimeRight, time_right, times_first, times_rest, trip_inside, stop_inside, TransferRight, transfer_right, transfers_first, transfers_rest}
use Rattle.std.specs.Prelude.{Result}
use Rattle.gtfs_write.specs.Written.{LIMITS, Whole, whole_rows, answered}
use Rattle.gtfs_write.proofs.Tests.{whole_rows_lem}
use Rattle.gtfs_write_times.specs.WrittenTimes.{written_times}
use Rattle.gtfs_write_times.proofs.Lines.{time_long}
use Rattle.gtfs_write_transfers.specs.WrittenTransfers.{written_transfers}
use Rattle.gtfs_write_transfers.proofs.Texts.{transfer_long}
use Rattle.gtfs_c.specs.FeedFace.{writing_size}

-- the size that is told is the text's, where the rows are whole and have no fault
told_few : (rows : Bool) (fault size room : ℕ) → (rows ≡ true → fault ≡ 0 → size < 4_294_967_296)
    → writing_size (answered rows fault size room) < 4_294_967_296
unfolding answered
told_few false fault size room f = omega arith
told_few true (suc k) size room f = omega arith
told_few true zero size room f = split (leb size room) (λ e. rw e (f refl refl)) (λ e. rw e (omega arith))

-- ---- stop times
position_near : (trips v p : ℕ) → position_after trips v p ≤ suc p
unfolding position_after
position_near trips v p = split (eqb (suc v) trips) (λ e. rw e (omega arith)) (λ e. rw e (omega arith))

time_few : (s : Seen) (r : TimeRow) (p : ℕ) → TimeRight LIMITS s r → p ≤ 4_294_967_295 → length (time_text r p) ≤ 51
unfolding time_with
time_few s r p t h =
    omega (
      arith,
      time_long r.trip r.stop r.arrival r.departure p,
      digits_few r.trip (omega (arith, trip_inside LIMITS s.trips r.trip t.trip_fits_lem)),
      digits_few r.stop (omega (arith, stop_inside LIMITS s.stops r.stop t.stop_fits_lem)),
      digits_few p h,
    )

times_few : (rs : List TimeRow) (s : Seen) (trips p : ℕ) → times_fault LIMITS s rs ≡ 0 → p + length rs ≤ 4_294_967_295
    → length (times_text rs trips p) ≤ 51 * length rs
unfolding times_text
times_few [] s trips p e h = omega arith
times_few (r ∷ rs) s trips p e h =
    let q = position_after trips r.trip p in
    let n = position_near trips r.trip p in
    omega (
      arith,
      length-append (time_text r q) (times_text rs (suc r.trip) q),
      time_few s r q (time_right LIMITS s r (times_first LIMITS s r rs e)) (omega arith),
      times_few rs (after_time s r) (suc r.trip) q (times_rest LIMITS s r rs e) (omega arith),
    )

times_header_lem : length times_header ≡ 58
unfolding times_header line_with trip_id arrival_time departure_time stop_id stop_sequence
times_header_lem = refl

times_text_lem : (w : List ℕ) → Whole MOST_STOP_TIMES w → times_fault LIMITS none_seen (time_rows_in w) ≡ 0
    → length (write_times (time_rows_in w)) < 4_294_967_296
unfolding write_times time_rows_in
times_text_lem w h e =
    let l = fours_length time_with w in
    omega (
      arith,
      h.few,
      times_header_lem,
      length-append times_header (times_text (time_rows_in w) 0 0),
      times_few (time_rows_in w) none_seen 0 0 e (omega (arith, h.few)),
    )

pub times_size : (w : List ℕ) (room : ℕ) {x : Result ℕ ℕ} → x ≡ written_times w room → writing_size x < 4_294_967_296
unfolding written_times
times_size w room e =
    rw e
    (told_few (whole_rows MOST_STOP_TIMES w) (times_fault LIMITS none_seen (time_rows_in w)) (length (write_times (time_rows_in w))) room
    (λ t f. times_text_lem w (whole_rows_lem MOST_STOP_TIMES w refl t) f))

-- ---- transfers
kind_few : (k x : ℕ) → fits_span k x ≡ true → k ≤ 5
unfolding fits_span
kind_few k x e =
    split (eqb k 2)
    (λ t. let q = eqb-true k 2 t in omega arith)
    (λ t. leb-true k 5 (and_left (leb k 5) (eqb x UNSTATED) (rw t at e)))

span_few : (k x : ℕ) → fits_span k x ≡ true → length (span_text k x) ≤ 10
unfolding fits_span span_text
span_few k x e =
    split (eqb k 2)
    (λ t. let u : ltb x UNSTATED ≡ true = rw t at e in rw t (digits_few x (omega (arith, ltb-true x UNSTATED u))))
    (λ t. rw t (omega arith))

transfer_few : (stops : ℕ) (r : TransferRow) → TransferRight LIMITS stops r → length (transfer_text r) ≤ 44
unfolding transfer_with
transfer_few stops r t =
    omega (
      arith,
      transfer_long r.from r.to r.kind r.span,
      digits_few r.from (omega (arith, stop_inside LIMITS stops r.from t.from_fits)),
      digits_few r.to (omega (arith, stop_inside LIMITS (seen_after stops r.from) r.to t.to_fits)),
      digits_few r.kind (omega (arith, kind_few r.kind r.span t.span_fits)),
      span_few r.kind r.span t.span_fits,
    )

transfers_few : (rs : List TransferRow) (stops : ℕ) → transfers_fault LIMITS stops rs ≡ 0 → length (transfers_text rs) ≤ 44 * length rs
unfolding transfers_text
transfers_few [] stops e = omega arith
transfers_few (r ∷ rs) stops e =
    omega (
      arith,
      length-append (transfer_text r) (transfers_text rs),
      transfer_few stops r (transfer_right LIMITS stops r (transfers_first LIMITS stops r rs e)),
      transfers_few rs (after_transfer stops r) (transfers_rest LIMITS stops r rs e),
    )

transfers_header_lem : length transfers_header ≡ 56
unfolding transfers_header line_with from_stop_id to_stop_id transfer_type min_transfer_time
transfers_header_lem = refl

transfers_text_lem : (w : List ℕ) (stops : ℕ) → Whole MOST_TRANSFERS w → transfers_fault LIMITS stops (transfer_rows_in w) ≡ 0
    → length (write_transfers (transfer_rows_in w)) < 4_294_967_296
unfolding write_transfers transfer_rows_in
transfers_text_lem w stops h e =
    let l = fours_length transfer_with w in
    omega (
      arith,
      h.few,
      transfers_header_lem,
      length-append transfers_header (transfers_text (transfer_rows_in w)),
      transfers_few (transfer_rows_in w) stops e,
    )

pub transfers_size : (w : List ℕ) (stops room : ℕ) {x : Result ℕ ℕ} → x ≡ written_transfers w stops room → writing_size x < 4_294_967_296
unfolding written_transfers
transfers_size w stops room e =
    rw e
    (told_few (whole_rows MOST_TRANSFERS w) (transfers_fault LIMITS stops (transfer_rows_in w)) (length (write_transfers (transfer_rows_in w))) room
    (λ t f. transfers_text_lem w stops (whole_rows_lem MOST_TRANSFERS w refl t) f))
