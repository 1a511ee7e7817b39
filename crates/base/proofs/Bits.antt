-- The binary digits of a number, and its lowest digit that is set.
-- Assumes nothing.
use mathlib.Core.Path.{◌≡◌, refl, sym, ap, ◌∙◌}
use Prim.Native.Nat.{ℕ, zero, suc, ◌+◌, ◌/◌, ◌%◌, ◌^◌, ◌<◌, max}
use native.Mathlib.Omega.{arith}
use native.Mathlib.Nat.{pow-suc, pow-succ', div-one, div-div-eq-div-mul, zero-add, add-zero, suc-add}
use lib.Bits.{bit_or, or_step}
use lib.Count.{count_trailing_zeros, under}
use Rattle.base.specs.Bits.{bit}

pub bit_lt : (x i : ℕ) → bit x i < 2
unfolding bit
bit_lt x zero = omega arith
bit_lt x (suc i) = bit_lt (x / 2) i

-- ---- shifts
pub bit_shr : (x k i : ℕ) → bit (x / 2 ^ k) i ≡ bit x (k + i)
unfolding bit
bit_shr x zero i = rw (zero-add, div-one)
bit_shr x (suc k) i = rw (suc-add, pow-succ', ← div-div-eq-div-mul) (bit_shr (x / 2) k i)

-- the digit by a shift, as code reads it
pub bit_is : (x k : ℕ) → x / 2 ^ k % 2 ≡ bit x k
unfolding bit
bit_is x k = bit_shr x k 0 ∙ ap (bit x) (add-zero k)

-- ---- 0, and what is above a number's digits
pub bit_zero : (i : ℕ) → bit 0 i ≡ 0
unfolding bit
bit_zero zero = refl
bit_zero (suc i) = bit_zero i

pub bit_high : (i x : ℕ) → x < 2 ^ i → bit x i ≡ 0
unfolding bit
bit_high zero x h = omega arith
bit_high (suc i) x h = bit_high i (x / 2) (omega (arith, pow-suc 2 i))

-- ---- the trailing zeros: the digits below are 0, and the next is 1
module _ (x : ℕ) where
  under_below : (t i d : ℕ) → d ≡ x % 2 → ((j : ℕ) → j < t → bit (x / 2) j ≡ 0) → i < under d t → bit x i ≡ 0
  unfolding bit
  under_below t zero zero e f h = sym e
  under_below t (suc i) zero e f h = f i (omega arith)
  under_below t i (suc d) e f h = absurd (omega arith)

  under_at : (t d : ℕ) → d ≡ x % 2 → (d ≡ 0 → bit (x / 2) t ≡ 1) → bit x (under d t) ≡ 1
  unfolding bit
  under_at t zero e f = f refl
  under_at t (suc d) e f = omega arith

pub trailing_below : (k x i : ℕ) → i < count_trailing_zeros k x → bit x i ≡ 0
unfolding count_trailing_zeros
trailing_below zero x i h = absurd (omega arith)
trailing_below (suc k) x i h = under_below x (count_trailing_zeros k (x / 2)) i (x % 2) refl (trailing_below k (x / 2)) h

pub trailing_at : (k x : ℕ) → 0 < x → x < 2 ^ k → bit x (count_trailing_zeros k x) ≡ 1
unfolding count_trailing_zeros
trailing_at zero x h g = absurd (omega arith)
trailing_at (suc k) x h g =
    let low = count_trailing_zeros k (x / 2) in
    under_at x low (x % 2) refl (λ e. trailing_at k (x / 2) (omega arith) (omega (arith, pow-suc 2 k)))

-- ---- `|` with a power of two sets one digit
bit_or_lem : (i a b : ℕ) → bit (bit_or a b) i ≡ max (bit a i) (bit b i)
unfolding bit
bit_or_lem zero a b = omega (arith, or_step a b)
bit_or_lem (suc i) a b =
    let e : bit_or a b / 2 ≡ bit_or (a / 2) (b / 2) = omega (arith, or_step a b) in
    rw e (bit_or_lem i (a / 2) (b / 2))

half : (j : ℕ) → 2 ^ suc j / 2 ≡ 2 ^ j
half j = omega (arith, pow-suc 2 j)

power_same : (j : ℕ) → bit (2 ^ j) j ≡ 1
unfolding bit
power_same zero = refl
power_same (suc j) = rw (half j) (power_same j)

power_other : (j i : ℕ) → (i ≡ j → ⊥) → bit (2 ^ j) i ≡ 0
unfolding bit
power_other zero zero h = absurd (h refl)
power_other zero (suc i) h = bit_zero i
power_other (suc j) zero h = omega (arith, pow-suc 2 j)
power_other (suc j) (suc i) h = rw (half j) (power_other j i (λ p. h (ap suc p)))

pub or_same : (a k : ℕ) → bit (bit_or a (2 ^ k)) k ≡ 1
or_same a k = omega (arith, bit_or_lem k a (2 ^ k), power_same k, bit_lt a k)

pub or_other : (a k i : ℕ) → (i ≡ k → ⊥) → bit (bit_or a (2 ^ k)) i ≡ bit a i
or_other a k i n = omega (arith, bit_or_lem i a (2 ^ k), power_other k i n)
