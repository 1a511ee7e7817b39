-- The digits of a number: one, or those of its tenth part and a last one.
-- Assumes nothing.
use Prim.Native.Nat.{ℕ, zero, suc, ◌+◌, ◌/◌, ◌%◌, ◌≤◌, ◌<◌}
use mathlib.Core.Path.{◌≡◌, ap}
use mathlib.Core.List.{List, [], ◌∷◌, ◌++◌}
use native.Mathlib.Omega.{arith}
use lib.Dec.{ltb}
use borrow.Author.Tests.{ltb-true, ltb-false, lt-ltb, le-ltb}
use Rattle.base.proofs.Choice.{split}
use Rattle.numbers.specs.Decimal.{digits_in, digits}

in_short : (most n : ℕ) → n < 10 → digits_in (suc most) n ≡ (48 + n) ∷ []
unfolding digits_in
in_short most n h = rw (lt-ltb n 10 h, digits_in)

in_long : (most n : ℕ) → 10 ≤ n → digits_in (suc most) n ≡ digits_in most (n / 10) ++ ((48 + n % 10) ∷ [])
unfolding digits_in
in_long most n h = rw (le-ltb n 10 h, digits_in)

-- more room changes nothing
enough : (a b n : ℕ) → n ≤ a → n ≤ b → digits_in (suc a) n ≡ digits_in (suc b) n
enough zero b n h k = rw (in_short 0 n (omega arith), in_short b n (omega arith))
enough (suc a) zero n h k = rw (in_short (suc a) n (omega arith), in_short 0 n (omega arith))
enough (suc a) (suc b) n h k =
    split (ltb n 10)
    (λ t. let l = ltb-true n 10 t in rw (in_short (suc a) n l, in_short (suc b) n l))
    (λ t.
    let l = ltb-false n 10 t in
    rw (in_long (suc a) n l, in_long (suc b) n l)
    (ap (λ (x : List ℕ). x ++ ((48 + n % 10) ∷ [])) (enough a b (n / 10) (omega arith) (omega arith))))

pub digits_short : (n : ℕ) → n < 10 → digits n ≡ (48 + n) ∷ []
unfolding digits
digits_short n h = in_short n n h

pub digits_long : (n : ℕ) → 10 ≤ n → digits n ≡ digits (n / 10) ++ ((48 + n % 10) ∷ [])
unfolding digits
digits_long n h = go n h
  where
    go : (n : ℕ) → 10 ≤ n → digits_in (suc n) n ≡ digits_in (suc (n / 10)) (n / 10) ++ ((48 + n % 10) ∷ [])
    go zero h = absurd (omega arith)
    go (suc m) h =
        rw (in_long (suc m) (suc m) h)
        (ap (λ (x : List ℕ). x ++ ((48 + suc m % 10) ∷ [])) (enough m (suc m / 10) (suc m / 10) (omega arith) (omega arith)))

-- what holds of one digit, and of a number where it holds of its tenth part, holds of every number
pub by_tenths : (P : ℕ → Type 0) → ((m : ℕ) → m < 10 → P m) → ((m : ℕ) → 10 ≤ m → P (m / 10) → P m) → (n : ℕ) → P n
by_tenths P few many n = go n n (omega arith)
  where
    go : (most n : ℕ) → n ≤ most → P n
    go zero n h = few n (omega arith)
    go (suc most) n h =
        split (ltb n 10)
        (λ t. few n (ltb-true n 10 t))
        (λ t. let l = ltb-false n 10 t in many n l (go most (n / 10) (omega arith)))
