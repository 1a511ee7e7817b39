-- What a caller may know of marks: what a new mark changes, and that cleared words have none.
-- Assumes nothing.
use mathlib.Core.Path.{◌≡◌}
use mathlib.Core.Bool.{true, false}
use mathlib.Core.List.{List}
use Prim.Native.Nat.{ℕ, ◌*◌, ◌/◌, ◌%◌, ◌<◌}
use native.Mathlib.Omega.{arith}
use borrow.Author.Tests.{eqb-true, eqb-false}
use lib.Dec.{eqb}
use lib.ListN.{length, replicate, get_or-replicate, length-set}
use lib.Seq.{get_or-set_same, get_or-set_other}
use Rattle.base.proofs.Choice.{split}
use Rattle.base.proofs.Bits.{bit_zero, or_same, or_other}
use Rattle.marks.specs.Marks.{marked, with_mark}

-- ---- a new mark
module _ (ws : List ℕ) (s : ℕ) where
  pub mark_length : length (with_mark ws s) ≡ length ws
  unfolding with_mark
  mark_length = rw length-set

  pub mark_same : s < 64 * length ws → marked (with_mark ws s) s ≡ true
  unfolding marked with_mark
  mark_same h = let inside : s / 64 < length ws = omega arith in rw (get_or-set_same, or_same)

  pub mark_other : (t : ℕ) → s < 64 * length ws → (t ≡ s → ⊥) → marked (with_mark ws s) t ≡ marked ws t
  unfolding marked with_mark
  mark_other t h n =
      let inside : s / 64 < length ws = omega arith in
      split (eqb (t / 64) (s / 64))
      (λ e.
      let word : t / 64 ≡ s / 64 = eqb-true (t / 64) (s / 64) e in
      let digit : t % 64 ≡ s % 64 → ⊥ = λ d. n (omega arith) in
      rw (word, get_or-set_same, or_other))
      (λ e. let word : t / 64 ≡ s / 64 → ⊥ = eqb-false (t / 64) (s / 64) e in rw get_or-set_other)

-- ---- no marks
pub clear_none : (n s : ℕ) → s < 64 * n → marked (replicate n 0) s ≡ false
unfolding marked
clear_none n s h = let inside : s / 64 < n = omega arith in rw (get_or-replicate, bit_zero)
