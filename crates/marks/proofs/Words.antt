-- What a word of 64 marks says of its stops: the lowest digit that is set is the first marked stop.
-- Assumes nothing.
use mathlib.Core.Path.{◌≡◌, sym, ◌∙◌}
use mathlib.Core.Bool.{true}
use mathlib.Core.List.{List}
use Prim.Native.Nat.{ℕ, ◌+◌, ◌-◌, ◌*◌, ◌/◌, ◌%◌, ◌^◌, ◌≤◌, ◌<◌}
use native.Mathlib.Nat.{lt_of_lt_of_le, lt_of_not-le}
use native.Mathlib.Omega.{arith}
use lib.Dec.{eqb}
use lib.Pow.{pow_mono, shr_le}
use lib.ListN.{get_or}
use lib.Count.{count_trailing_zeros}
use Rattle.base.specs.Bits.{bit}
use Rattle.base.proofs.Bits.{bit_shr, bit_zero, bit_high, trailing_below, trailing_at}
use Rattle.marks.specs.Marks.{marked, marked_stops, first_of}
use Rattle.std.specs.Prelude.{None, Some}
use Rattle.marks.proofs.Chosen.{Clear, clear_join, clear_less, first_none, first_at}

-- stop a, digit k of its word, has the first marked stop of that word z stops further on
pub record First (ws : List ℕ) (a k z : ℕ) : Type 0 where
  pub inside : k + z < 64
  pub is_marked : marked ws (a + z) ≡ true
  pub none_before : Clear (marked ws) a (a + z)

-- stop a is digit k of word i, and r has the digits from there on
module _ (ws : List ℕ) (a i k r : ℕ) (at : i * 64 + k ≡ a) (is : get_or ws i 0 / 2 ^ k ≡ r) where
  digit_at : (t : ℕ) → a ≤ t → t < i * 64 + 64 → marked ws t ≡ eqb (bit r (t - a)) 1
  unfolding marked
  digit_at t g h =
      let word : t / 64 ≡ i = omega arith in
      let digit : t % 64 ≡ k + (t - a) = omega arith in
      rw (word, digit, ← is, bit_shr)

  pub word_clear : r ≡ 0 → Clear (marked ws) a (i * 64 + 64)
  word_clear z t g h = digit_at t g h ∙ rw (z, bit_zero)

  pub word_first : (r ≡ 0 → ⊥) → get_or ws i 0 < 2 ^ 64 → First ws a k (count_trailing_zeros 64 r)
  word_first some fits = record { inside = inside; is_marked = set; none_before = none }
    where
      z : ℕ
      z = count_trailing_zeros 64 r

      one : bit r z ≡ 1
      one = trailing_at 64 r (omega arith) (omega (arith, shr_le (get_or ws i 0) k))

      inside : k + z < 64
      inside =
          lt_of_not-le
          (λ h.
          let digit : bit (get_or ws i 0) (k + z) ≡ 1 = sym (bit_shr (get_or ws i 0) k z) ∙ rw is one in
          omega (arith, bit_high (k + z) (get_or ws i 0) (lt_of_lt_of_le fits (pow_mono h))))

      set : marked ws (a + z) ≡ true
      set =
          let there : a + z - a ≡ z = omega arith in
          digit_at (a + z) (omega arith) (omega (arith, inside)) ∙ rw (there, one)

      none : Clear (marked ws) a (a + z)
      none t g h = digit_at t g (omega (arith, inside)) ∙ rw (trailing_below 64 r (t - a) (omega arith))

-- ---- the answer, once no stop from `from` up to a is marked
module _ (ws : List ℕ) (from limit a k z : ℕ) (c : Clear (marked ws) from a) (f : First ws a k z) where
  before : Clear (marked ws) from (a + z)
  before = clear_join (marked ws) from a (a + z) c f.none_before

  pub answer_at : from ≤ a → a + z < limit → Some (a + z) ≡ first_of (marked_stops ws from limit)
  answer_at g h = first_at (marked ws) from limit (a + z) (omega arith) h before f.is_marked

  pub answer_none : limit ≤ a + z → None ≡ first_of (marked_stops ws from limit)
  answer_none h = first_none (marked ws) from limit (clear_less (marked ws) from (a + z) limit h before)
