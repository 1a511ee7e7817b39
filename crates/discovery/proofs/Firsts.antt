-- What the first number that passes a test says of the test: all before it fail, and it passes where it is in range.
use Prim.Native.Nat.{ℕ, zero, suc, ◌+◌, ◌≤◌, ◌<◌}
use mathlib.Core.Path.{◌≡◌}
use mathlib.Core.Bool.{Bool, true, false}
use native.Mathlib.Omega.{arith}
use native.Mathlib.Decide.{dec_lt}
use Rattle.base.proofs.Choice.{split}
use Rattle.base.proofs.First.{first_here, first_on}
use Rattle.base.specs.First.{first}

module _ (t : ℕ → Bool) where
  pub first_fails : (n j k : ℕ) → j ≤ k → k < first t n j → t k ≡ false
  unfolding first
  first_fails zero j k l g = absurd (omega arith)
  first_fails (suc n) j k l g =
      split (t j)
      (λ e. absurd (omega (arith, first_here t n j e)))
      (λ e.
      elim (dec_lt j k) [
        | yes m ↦ first_fails n (suc j) k m (omega (arith, first_on t n j e))
        | no m ↦ let same : k ≡ j = omega arith in rw same e
      ])

  pub first_passes : (n j : ℕ) → first t n j < j + n → t (first t n j) ≡ true
  unfolding first
  first_passes zero j g = absurd (omega arith)
  first_passes (suc n) j g =
      split (t j)
      (λ e. rw (first_here t n j e) e)
      (λ e. rw (first_on t n j e) (first_passes n (suc j) (omega (arith, first_on t n j e))))

  pub first_most : (n j : ℕ) → first t n j ≤ j + n
  unfolding first
  first_most zero j = omega arith
  first_most (suc n) j =
      split (t j) (λ e. omega (arith, first_here t n j e)) (λ e. omega (arith, first_on t n j e, first_most n (suc j)))
