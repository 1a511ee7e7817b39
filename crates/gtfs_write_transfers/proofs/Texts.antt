-- A transfer as bytes, the text of all of them, and the two loops over it, which measure and which write.
-- Assumes nothing.
use Prim.Native.Nat.{ℕ, ◌+◌, ◌*◌, ◌/◌, ◌≤◌, ◌<◌}
use mathlib.Core.Path.{◌≡◌, refl, sym, ap}
use mathlib.Core.List.{List, [], ◌++◌, append_assoc}
use native.Mathlib.Omega.{arith}
use lib.ListN.{length, set, get_or, drop, length-append}
use borrow.Author.Tests.{eq-eqb, ne_eqb}
use Rattle.base.specs.Put.{with_bytes}
use Rattle.base.proofs.Put.{put_one}
use Rattle.numbers.specs.Decimal.{digits}
use Rattle.feed.specs.Columns.{from_stop_id, to_stop_id, transfer_type, min_transfer_time}
use Rattle.feed.specs.Rows.{transfer_with, transfer_rows_in}
use Rattle.feed.specs.Writing.{line_with, span_text, transfer_text, transfers_text, transfers_header, write_transfers}
use Rattle.gtfs_write.specs.Written.{cell}
use Rattle.gtfs_write.proofs.Places.{row_by, rows_next, rows_none}
use Rattle.std.specs.Simd.{first_chunks}
use Rattle.gtfs_write.proofs.Filled.{Filled, filled_head, filled_room, filled_next, filled_end, filled_over, cell_length, meet_first, meet_second, meet_end, meet_put}

-- ---- a span
module _ (k x : ℕ) where
  stated_text : k ≡ 2 → span_text k x ≡ digits x
  unfolding span_text
  stated_text h = rw (eq-eqb k 2 h)

  no_text : (k ≡ 2 → ⊥) → span_text k x ≡ []
  unfolding span_text
  no_text h = rw (ne_eqb k 2 h)

  pub no_size : (k ≡ 2 → ⊥) → 0 ≡ length (span_text k x)
  no_size h = ap length (sym (no_text h))

  module _ (b : List ℕ) (at : ℕ) where
    pub stated_asks : k ≡ 2 → at + length (cell (span_text k x) 10) ≤ length b → at + length (cell (digits x) 10) ≤ length b
    stated_asks h l = rw (stated_text h) at l

    pub stated_put : {y : List ℕ} → k ≡ 2 → y ≡ with_bytes b at (cell (digits x) 10) → y ≡ with_bytes b at (cell (span_text k x) 10)
    stated_put h e = rw (stated_text h) e

    pub no_room : at + length (cell (span_text k x) 10) ≤ length b → at < length b
    no_room l = omega (arith, cell_length (span_text k x) 10)

    pub no_put : (k ≡ 2 → ⊥) → at + length (cell (span_text k x) 10) ≤ length b → set b at 10 ≡ with_bytes b at (cell (span_text k x) 10)
    unfolding cell
    no_put h l = rw (no_text h) (put_one b at 10 (omega (arith, no_room l)))

  pub no_end : (at : ℕ) → (k ≡ 2 → ⊥) → at + 1 ≡ at + length (cell (span_text k x) 10)
  no_end at h = omega (arith, cell_length (span_text k x) 10, no_size h)

  pub stated_end : (at : ℕ) {e : ℕ} → k ≡ 2 → e ≡ at + length (cell (digits x) 10) → e ≡ at + length (cell (span_text k x) 10)
  stated_end at h e = rw (stated_text h) e

-- ---- a row
module _ (f t k x : ℕ) where
  cells : transfer_text (transfer_with f t k x) ≡ (cell (digits f) 44 ++ cell (digits t) 44) ++ (cell (digits k) 44 ++ cell (span_text k x) 10)
  unfolding transfer_text transfer_with line_with cell
  cells = simp append_assoc

  pub transfer_long : length (transfer_text (transfer_with f t k x)) ≡ 4 + length (digits f) + length (digits t) + length (digits k) + length (span_text k x)
  transfer_long =
      let p = cell (digits f) 44 ++ cell (digits t) 44 in
      let q = cell (digits k) 44 ++ cell (span_text k x) 10 in
      rw cells
      (omega (
        arith,
        length-append p q,
        length-append (cell (digits f) 44) (cell (digits t) 44),
        length-append (cell (digits k) 44) (cell (span_text k x) 10),
        cell_length (digits f) 44,
        cell_length (digits t) 44,
        cell_length (digits k) 44,
        cell_length (span_text k x) 10,
      ))

  module _ (at : ℕ) where
    pub stops_ask : {n : ℕ} → at + length (transfer_text (transfer_with f t k x)) ≤ n → at + length (cell (digits f) 44 ++ cell (digits t) 44) ≤ n
    stops_ask h = meet_first at (cell (digits f) 44 ++ cell (digits t) 44) (cell (digits k) 44 ++ cell (span_text k x) 10) (rw cells at h)

    module _ {e : ℕ} (q : e ≡ at + length (cell (digits f) 44 ++ cell (digits t) 44)) where
      pub kind_asks : {m n : ℕ} → at + length (transfer_text (transfer_with f t k x)) ≤ n → m ≡ n
          → e + length (cell (digits k) 44 ++ cell (span_text k x) 10) ≤ m
      kind_asks h l =
          meet_second at (cell (digits f) 44 ++ cell (digits t) 44) (cell (digits k) 44 ++ cell (span_text k x) 10) q (rw cells at h) l

      pub transfer_end : {g : ℕ} → g ≡ e + length (cell (digits k) 44 ++ cell (span_text k x) 10) → g ≡ at + length (transfer_text (transfer_with f t k x))
      transfer_end h = rw cells (meet_end at (cell (digits f) 44 ++ cell (digits t) 44) (cell (digits k) 44 ++ cell (span_text k x) 10) q h)

      pub transfer_put : (b : List ℕ) {y z : List ℕ} → at + length (transfer_text (transfer_with f t k x)) ≤ length b
          → y ≡ with_bytes b at (cell (digits f) 44 ++ cell (digits t) 44)
          → z ≡ with_bytes y e (cell (digits k) 44 ++ cell (span_text k x) 10)
          → z ≡ with_bytes b at (transfer_text (transfer_with f t k x))
      transfer_put b h i j =
          rw cells (meet_put at (cell (digits f) 44 ++ cell (digits t) 44) (cell (digits k) 44 ++ cell (span_text k x) 10) q b (rw cells at h) i j)

-- ---- the text
header_long : length transfers_header ≡ 56
unfolding transfers_header line_with from_stop_id to_stop_id transfer_type min_transfer_time
header_long = refl

module _ (w : List ℕ) {rows : List (List ℕ)} (cut : rows ≡ first_chunks 4 (length w / 4) w) (k : ℕ) where
  text_next : k < length rows
      → transfers_text (drop k (transfer_rows_in w)) ≡ transfer_text (row_by transfer_with (get_or rows k [])) ++ transfers_text (drop (k + 1) (transfer_rows_in w))
  unfolding transfer_rows_in transfers_text
  text_next h = rw (rows_next transfer_with w cut k h)

  text_none : length rows ≤ k → transfers_text (drop k (transfer_rows_in w)) ≡ []
  unfolding transfer_rows_in transfers_text
  text_none h = rw (rows_none transfer_with w cut k h)

-- ---- measured
pub record Sizing (w : List ℕ) (n k : ℕ) : Type 0 where
  pub small : n ≤ 56 + 44 * k
  rest : n + length (transfers_text (drop k (transfer_rows_in w))) ≡ length (write_transfers (transfer_rows_in w))

pub sizing_start : (w : List ℕ) → Sizing w 56 0
unfolding write_transfers
sizing_start w =
    record { small = omega arith; rest = omega (arith, header_long, length-append transfers_header (transfers_text (transfer_rows_in w))) }

module _ {w : List ℕ} {n k : ℕ} (s : Sizing w n k) {rows : List (List ℕ)} (cut : rows ≡ first_chunks 4 (length w / 4) w) where
  pub sizing_next : {m : ℕ} → k < length rows
      → (m ≡ 4 + length (digits (get_or (get_or rows k []) 0 0)) + length (digits (get_or (get_or rows k []) 1 0)) + length (digits (get_or (get_or rows k []) 2 0))
      + length (span_text (get_or (get_or rows k []) 2 0) (get_or (get_or rows k []) 3 0)))
      × (m ≤ 44)
      → Sizing w (n + m) (k + 1)
  sizing_next {m} h f =
      let x = get_or rows k [] in
      let l = length-append (transfer_text (row_by transfer_with x)) (transfers_text (drop (k + 1) (transfer_rows_in w))) in
      record {
        small = omega (arith, s.small, f.1);
        rest =
            omega (
              arith,
              s.rest,
              ap length (text_next w cut k h),
              l,
              f.0,
              transfer_long (get_or x 0 0) (get_or x 1 0) (get_or x 2 0) (get_or x 3 0),
            );
      }

  pub sizing_end : length rows ≤ k → n ≡ length (write_transfers (transfer_rows_in w))
  sizing_end h = omega (arith, s.rest, ap length (text_none w cut k h))

-- ---- written
pub record Putting (w b₀ b : List ℕ) (at k : ℕ) : Type 0 where
  pub long : length b ≡ length b₀
  filled : Filled (write_transfers (transfer_rows_in w)) b₀ b at (transfers_text (drop k (transfer_rows_in w)))

pub header_room : (w : List ℕ) {n : ℕ} → length (write_transfers (transfer_rows_in w)) ≤ n → 56 ≤ n
unfolding write_transfers
header_room w h = omega (arith, header_long, length-append transfers_header (transfers_text (transfer_rows_in w)))

-- the loop begins behind the header
pub putting_start : (w b : List ℕ) {x : List ℕ} → length (write_transfers (transfer_rows_in w)) ≤ length b → x ≡ with_bytes b 0 transfers_header
    → Putting w x x 56 0
unfolding write_transfers
putting_start w b {x} h f =
    let y : Filled (transfers_header ++ transfers_text (transfer_rows_in w)) x x 56 (transfers_text (transfer_rows_in w)) =
    filled_head transfers_header b (transfers_text (transfer_rows_in w)) (omega (arith, header_long)) h f in
    record { long = refl; filled = y }

module _ {w b₀ b : List ℕ} {at k : ℕ} (s : Putting w b₀ b at k) {rows : List (List ℕ)} (cut : rows ≡ first_chunks 4 (length w / 4) w) where
  pub putting_end : (b₁ : List ℕ) → length rows ≤ k → b₀ ≡ with_bytes b₁ 0 transfers_header → b ≡ with_bytes b₁ 0 (write_transfers (transfer_rows_in w))
  unfolding write_transfers
  putting_end b₁ h f =
      let y : Filled (write_transfers (transfer_rows_in w)) b₀ b at [] = rw (← text_none w cut k h) s.filled in
      filled_over transfers_header b₁ (transfers_text (transfer_rows_in w)) f (filled_end y)

  module _ (h : k < length rows) where
    next : Filled (write_transfers (transfer_rows_in w)) b₀ b at
        (transfer_text (row_by transfer_with (get_or rows k [])) ++ transfers_text (drop (k + 1) (transfer_rows_in w)))
    next = rw (← text_next w cut k h) s.filled

    pub putting_room : at + length (transfer_text (row_by transfer_with (get_or rows k []))) ≤ length b
    putting_room = filled_room (transfer_text (row_by transfer_with (get_or rows k []))) (transfers_text (drop (k + 1) (transfer_rows_in w))) next

    pub putting_next : {x : List ℕ} {f : ℕ} → f ≡ at + length (transfer_text (row_by transfer_with (get_or rows k [])))
        → x ≡ with_bytes b at (transfer_text (row_by transfer_with (get_or rows k []))) → Putting w b₀ x f (k + 1)
    putting_next g m =
        let y = filled_next (transfer_text (row_by transfer_with (get_or rows k []))) (transfers_text (drop (k + 1) (transfer_rows_in w))) next g m in
        record { long = y.long; filled = y }
