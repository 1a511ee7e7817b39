-- The text of all rows: its header, its next row, and the two loops over it, which measure and which write.
-- Assumes nothing.
use Prim.Native.Nat.{ℕ, suc, ◌+◌, ◌*◌, ◌/◌, ◌≤◌, ◌<◌}
use mathlib.Core.Path.{◌≡◌, refl, ap}
use mathlib.Core.Bool.{true}
use mathlib.Core.List.{List, [], ◌∷◌, ◌++◌}
use native.Mathlib.Omega.{arith}
use lib.ListN.{length, get_or, drop, length-append}
use Rattle.std.specs.Simd.{first_chunks}
use Rattle.base.specs.Each.{Each, nil, cons}
use Rattle.base.specs.Put.{with_bytes}
use Rattle.numbers.specs.Decimal.{digits}
use Rattle.feed.specs.declared.Room.{Room}
use Rattle.feed.specs.Feed.{TimeRow}
use Rattle.feed.specs.Columns.{trip_id, arrival_time, departure_time, stop_id, stop_sequence}
use Rattle.feed.specs.Orderly.{Seen, none_seen, is_moment, after_time, times_fault}
use Rattle.feed.specs.Rows.{time_with, time_rows_in}
use Rattle.feed.specs.Writing.{line_with, position_after, time_text, times_text, times_header, write_times}
use Rattle.feed.proofs.Faultless.{TimeRight, time_right, times_first, times_rest}
use Rattle.gtfs_write.specs.Written.{LIMITS}
use Rattle.gtfs_write.proofs.Places.{row_by, rows_next, rows_none}
use Rattle.gtfs_write.proofs.Filled.{Filled, filled_head, filled_room, filled_next, filled_end, filled_over}
use Rattle.gtfs_write_times.proofs.Lines.{time_long}

-- ---- the text
header_long : length times_header ≡ 58
unfolding times_header line_with trip_id arrival_time departure_time stop_id stop_sequence
header_long = refl

module _ (w : List ℕ) {rows : List (List ℕ)} (cut : rows ≡ first_chunks 4 (length w / 4) w) (k trips p : ℕ) where
  text_next : {q : ℕ} → k < length rows → q ≡ position_after trips (get_or (get_or rows k []) 0 0) p
      → times_text (drop k (time_rows_in w)) trips p
      ≡ time_text (row_by time_with (get_or rows k [])) q
      ++ times_text (drop (k + 1) (time_rows_in w)) (suc (get_or (get_or rows k []) 0 0)) q
  unfolding time_rows_in times_text time_with
  text_next h e = rw (rows_next time_with w cut k h, e)

  text_none : length rows ≤ k → times_text (drop k (time_rows_in w)) trips p ≡ []
  unfolding time_rows_in times_text
  text_none h = rw (rows_none time_with w cut k h)

-- ---- measured
pub record Sizing (w : List ℕ) (n trips p k : ℕ) : Type 0 where
  pub slow : p ≤ k
  pub small : n ≤ 58 + 51 * k
  rest : n + length (times_text (drop k (time_rows_in w)) trips p) ≡ length (write_times (time_rows_in w))

pub sizing_start : (w : List ℕ) → Sizing w 58 0 0 0
unfolding write_times
sizing_start w = record {
  slow = omega arith;
  small = omega arith;
  rest = omega (arith, header_long, length-append times_header (times_text (time_rows_in w) 0 0));
}

module _ {w : List ℕ} {n trips p k : ℕ} (s : Sizing w n trips p k) {rows : List (List ℕ)} (cut : rows ≡ first_chunks 4 (length w / 4) w) where
  pub sizing_next : {q m : ℕ} → k < length rows
      → (q ≡ position_after trips (get_or (get_or rows k []) 0 0) p) × (q ≤ p + 1)
      → (m ≡ 21 + length (digits (get_or (get_or rows k []) 0 0)) + length (digits (get_or (get_or rows k []) 1 0)) + length (digits q)) × (m ≤ 51)
      → Sizing w (n + m) (suc (get_or (get_or rows k []) 0 0)) q (k + 1)
  sizing_next {q} {m} h e f =
      let x = get_or rows k [] in
      let l = length-append (time_text (row_by time_with x) q) (times_text (drop (k + 1) (time_rows_in w)) (suc (get_or x 0 0)) q) in
      record {
        slow = omega (arith, s.slow, e.1);
        small = omega (arith, s.small, f.1);
        rest =
            omega (
              arith,
              s.rest,
              ap length (text_next w cut k trips p h e.0),
              l,
              f.0,
              time_long (get_or x 0 0) (get_or x 1 0) (get_or x 2 0) (get_or x 3 0) q,
            );
      }

  pub sizing_end : length rows ≤ k → n ≡ length (write_times (time_rows_in w))
  sizing_end h = omega (arith, s.rest, ap length (text_none w cut k trips p h))

-- ---- written
unfoldable Timed : TimeRow → Type 0
Timed r = (is_moment r.arrival ≡ true) × (is_moment r.departure ≡ true)

all_timed : (room : Room) (rs : List TimeRow) (s : Seen) → times_fault room s rs ≡ 0 → Each Timed rs
unfolding Timed
all_timed room [] s e = nil
all_timed room (r ∷ rs) s e =
    let t : TimeRight room s r = time_right room s r (times_first room s r rs e) in
    cons (t.arrival, t.departure) (all_timed room rs (after_time s r) (times_rest room s r rs e))

head_timed : (r : TimeRow) (rs : List TimeRow) → Each Timed (r ∷ rs) → Timed r
head_timed r rs (cons t h) = t

tail_timed : (r : TimeRow) (rs : List TimeRow) → Each Timed (r ∷ rs) → Each Timed rs
tail_timed r rs (cons t h) = h

pub record Putting (w b₀ b : List ℕ) (at trips p k : ℕ) : Type 0 where
  pub slow : p ≤ k
  pub long : length b ≡ length b₀
  filled : Filled (write_times (time_rows_in w)) b₀ b at (times_text (drop k (time_rows_in w)) trips p)
  timed : Each Timed (drop k (time_rows_in w))

pub header_room : (w : List ℕ) {n : ℕ} → length (write_times (time_rows_in w)) ≤ n → 58 ≤ n
unfolding write_times
header_room w h = omega (arith, header_long, length-append times_header (times_text (time_rows_in w) 0 0))

-- the loop begins behind the header
pub putting_start : (w b : List ℕ) {x : List ℕ} → times_fault LIMITS none_seen (time_rows_in w) ≡ 0 → length (write_times (time_rows_in w)) ≤ length b
    → x ≡ with_bytes b 0 times_header → Putting w x x 58 0 0 0
unfolding write_times
putting_start w b {x} e h f =
    let y : Filled (times_header ++ times_text (time_rows_in w) 0 0) x x 58 (times_text (time_rows_in w) 0 0) =
    filled_head times_header b (times_text (time_rows_in w) 0 0) (omega (arith, header_long)) h f in
    record { slow = omega arith; long = refl; filled = y; timed = all_timed LIMITS (time_rows_in w) none_seen e }

module _ {w b₀ b : List ℕ} {at trips p k : ℕ} (s : Putting w b₀ b at trips p k) {rows : List (List ℕ)}
    (cut : rows ≡ first_chunks 4 (length w / 4) w) where
  pub putting_end : (b₁ : List ℕ) → length rows ≤ k → b₀ ≡ with_bytes b₁ 0 times_header
      → b ≡ with_bytes b₁ 0 (write_times (time_rows_in w))
  unfolding write_times
  putting_end b₁ h f =
      let y : Filled (write_times (time_rows_in w)) b₀ b at [] = rw (← text_none w cut k trips p h) s.filled in
      filled_over times_header b₁ (times_text (time_rows_in w) 0 0) f (filled_end y)

  module _ (h : k < length rows) where
    cut_next : drop k (time_rows_in w) ≡ row_by time_with (get_or rows k []) ∷ drop (k + 1) (time_rows_in w)
    unfolding time_rows_in
    cut_next = rows_next time_with w cut k h

    now_timed : Timed (row_by time_with (get_or rows k []))
    now_timed = head_timed (row_by time_with (get_or rows k [])) (drop (k + 1) (time_rows_in w)) (rw (← cut_next) s.timed)

    pub putting_arrival : is_moment (get_or (get_or rows k []) 2 0) ≡ true
    unfolding Timed time_with
    putting_arrival = now_timed.0

    pub putting_departure : is_moment (get_or (get_or rows k []) 3 0) ≡ true
    unfolding Timed time_with
    putting_departure = now_timed.1

    module _ {q : ℕ} (e : (q ≡ position_after trips (get_or (get_or rows k []) 0 0) p) × (q ≤ p + 1)) where
      next : Filled (write_times (time_rows_in w)) b₀ b at
          (time_text (row_by time_with (get_or rows k [])) q ++ times_text (drop (k + 1) (time_rows_in w)) (suc (get_or (get_or rows k []) 0 0)) q)
      next = rw (← text_next w cut k trips p h e.0) s.filled

      pub putting_room : at + length (time_text (row_by time_with (get_or rows k [])) q) ≤ length b
      putting_room =
          filled_room (time_text (row_by time_with (get_or rows k [])) q)
          (times_text (drop (k + 1) (time_rows_in w)) (suc (get_or (get_or rows k []) 0 0)) q) next

      pub putting_next : {x : List ℕ} {f : ℕ} → f ≡ at + length (time_text (row_by time_with (get_or rows k [])) q)
          → x ≡ with_bytes b at (time_text (row_by time_with (get_or rows k [])) q)
          → Putting w b₀ x f (suc (get_or (get_or rows k []) 0 0)) q (k + 1)
      putting_next g m =
          let y =
          filled_next (time_text (row_by time_with (get_or rows k [])) q)
          (times_text (drop (k + 1) (time_rows_in w)) (suc (get_or (get_or rows k []) 0 0)) q) next g m in
          record {
            slow = omega (arith, s.slow, e.1);
            long = y.long;
            filled = y;
            timed = tail_timed (row_by time_with (get_or rows k [])) (drop (k + 1) (time_rows_in w)) (rw (← cut_next) s.timed);
          }
