-- A row as bytes: its cells, how long they are, and that they are put one behind the other.
-- Assumes nothing.
use Prim.Native.Nat.{ℕ, ◌+◌, ◌^◌, ◌≤◌, ◌<◌}
use mathlib.Core.Path.{◌≡◌}
use mathlib.Core.List.{List, ◌++◌, append_assoc}
use native.Mathlib.Omega.{arith}
use lib.ListN.{length, length-append}
use Rattle.base.specs.Put.{with_bytes}
use Rattle.numbers.specs.Decimal.{digits}
use Rattle.numbers.specs.Clock.{clock_text}
use Rattle.feed.specs.Rows.{time_with}
use Rattle.feed.specs.Writing.{line_with, time_text}
use Rattle.gtfs_write.specs.Written.{cell}
use Rattle.gtfs_write.proofs.Filled.{cell_length, meet_put}
use Rattle.gtfs_write.proofs.Moments.{moments_long}

module _ (v s a d p : ℕ) where
  cells : time_text (time_with v s a d) p
      ≡ cell (digits v) 44 ++ ((cell (clock_text a) 44 ++ cell (clock_text d) 44) ++ (cell (digits s) 44 ++ cell (digits p) 10))
  unfolding time_text time_with line_with cell
  cells = simp append_assoc

  long : length (time_text (time_with v s a d) p) ≡ length (cell (digits v) 44) + 18 + length (cell (digits s) 44 ++ cell (digits p) 10)
  long =
      let ms = cell (clock_text a) 44 ++ cell (clock_text d) 44 in
      let e = cell (digits s) 44 ++ cell (digits p) 10 in
      rw cells (omega (arith, length-append (cell (digits v) 44) (ms ++ e), length-append ms e, moments_long a d))

  pub time_long : length (time_text (time_with v s a d) p) ≡ 21 + length (digits v) + length (digits s) + length (digits p)
  time_long =
      omega (
        arith,
        long,
        length-append (cell (digits s) 44) (cell (digits p) 10),
        cell_length (digits v) 44,
        cell_length (digits s) 44,
        cell_length (digits p) 10,
      )

  module _ (b : List ℕ) (at : ℕ) (h : at + length (time_text (time_with v s a d) p) ≤ length b) where
    pub trip_asks : at + length (cell (digits v) 44) ≤ length b
    trip_asks = omega (arith, long)

    module _ {e : ℕ} (q : e ≡ at + length (cell (digits v) 44)) where
      pub moments_ask : (x : List ℕ) → length x ≡ length b → e + 18 ≤ length x
      moments_ask x l = omega (arith, long)

      pub place_fits : (x : List ℕ) → length x ≡ length b → length x < 2 ^ 64 → e + 18 < 2 ^ 64
      place_fits x l m = omega (arith, long)

      pub place_asks : (x y : List ℕ) → length x ≡ length b → length y ≡ length x
          → e + 18 + length (cell (digits s) 44 ++ cell (digits p) 10) ≤ length y
      place_asks x y l m = omega (arith, long)

      pub time_end : {f : ℕ} → f ≡ e + 18 + length (cell (digits s) 44 ++ cell (digits p) 10) → f ≡ at + length (time_text (time_with v s a d) p)
      time_end g = omega (arith, long)

      pub time_put : {x y z : List ℕ} → x ≡ with_bytes b at (cell (digits v) 44) → y ≡ with_bytes x e (cell (clock_text a) 44 ++ cell (clock_text d) 44)
          → z ≡ with_bytes y (e + 18) (cell (digits s) 44 ++ cell (digits p) 10) → z ≡ with_bytes b at (time_text (time_with v s a d) p)
      time_put {x} {y} {z} i j k =
          let t = cell (digits v) 44 in
          let ms = cell (clock_text a) 44 ++ cell (clock_text d) 44 in
          let w = cell (digits s) 44 ++ cell (digits p) 10 in
          let two : y ≡ with_bytes b at (t ++ ms) =
          meet_put at t ms q b (omega (arith, long, length-append t ms, moments_long a d)) i j in
          rw (cells, ← append_assoc t ms w)
          (meet_put at (t ++ ms) w {e = e + 18} (omega (arith, length-append t ms, moments_long a d)) b
          (omega (arith, long, length-append t ms, length-append (t ++ ms) w, moments_long a d)) two k)
