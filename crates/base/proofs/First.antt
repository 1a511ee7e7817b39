-- The first number that passes a test: what is told of it tells it.
-- Assumes nothing.
use mathlib.Core.Path.{◌≡◌, sym, ◌∙◌}
use mathlib.Core.Bool.{Bool, true, false}
use Prim.Native.Nat.{ℕ, zero, suc, ◌+◌, ◌≤◌, ◌<◌}
use native.Mathlib.Omega.{arith}
use lib.Dec.{ltb}
use borrow.Author.Tests.{ltb-true, ltb-false}
use Rattle.base.specs.First.{first}
use Rattle.base.proofs.Choice.{split}

module _ (t : ℕ → Bool) where
  pub first_here : (n j : ℕ) → t j ≡ true → first t (suc n) j ≡ j
  unfolding first
  first_here n j e = rw (e, first)

  pub first_on : (n j : ℕ) → t j ≡ false → first t (suc n) j ≡ first t n (suc j)
  unfolding first
  first_on n j e = rw (e, first)

  -- before r all fail, and r passes or is the end
  pub first_is : (n j r : ℕ) → j ≤ r → r ≤ j + n → ((k : ℕ) → j ≤ k → k < r → t k ≡ false) → (r < j + n → t r ≡ true)
      → first t n j ≡ r
  unfolding first
  first_is zero j r h₁ h₂ b a = omega arith
  first_is (suc n) j r h₁ h₂ b a =
      split (ltb j r)
      (λ l.
      let l' = ltb-true j r l in
      first_on n j (b j (omega arith) l')
      ∙ first_is n (suc j) r l' (omega arith) (λ k p q. b k (omega arith) q) (λ q. a (omega arith)))
      (λ l. let e : r ≡ j = omega (arith, ltb-false j r l) in first_here n j (rw e at (a (omega arith))) ∙ sym e)
