-- A test of every number in a range: how a check starts, goes on and ends, and what it tells of each number.
-- Assumes nothing.
use mathlib.Core.Path.{◌≡◌, refl, sym, ap, ◌∙◌}
use mathlib.Core.Bool.{Bool, true, false}
use Prim.Native.Nat.{ℕ, zero, suc, ◌+◌, ◌-◌, ◌≤◌, ◌<◌}
use native.Mathlib.Omega.{arith}
use native.Mathlib.Numerals.{add-one}
use lib.Dec.{eqb}
use borrow.Author.Tests.{eqb-true, eqb-false}
use Rattle.base.specs.All.{every, all, So}
use Rattle.base.proofs.Choice.{split}

every_on : (f : ℕ → Bool) (n i : ℕ) → f i ≡ true → every f (suc n) i ≡ every f n (suc i)
unfolding every
every_on f n i e = rw (e, every)

module _ {f : ℕ → Bool} {a b : ℕ} where
  pub so_start : So f a b a
  so_start = record { rest = refl }

  module _ {i : ℕ} (h : So f a b i) where
    pub so_on : i < b → f i ≡ true → So f a b (i + 1)
    unfolding all every
    so_on g e =
        let n = b - (i + 1) in
        let c : b - i ≡ suc n = omega arith in
        let on : every f n (i + 1) ≡ every f (suc n) i = ap (every f n) (add-one i) ∙ sym (every_on f n i e) in
        record { rest = on ∙ ap (λ (m : ℕ). every f m i) (sym c) ∙ h.rest }

    pub so_fails : i < b → f i ≡ false → all f a b ≡ false
    unfolding all every
    so_fails g e = let c : b - i ≡ suc (b - (i + 1)) = omega arith in sym (rw (c, every, e) at h.rest)

    pub so_passes : b ≤ i → all f a b ≡ true
    unfolding all every
    so_passes g = let c : b - i ≡ 0 = omega arith in sym (rw c at h.rest)

every_at : (f : ℕ → Bool) (n i k : ℕ) → every f n i ≡ true → i ≤ k → k < i + n → f k ≡ true
unfolding every
every_at f zero i k e h g = absurd (omega arith)
every_at f (suc n) i k e h g =
    split (f i)
    (λ t.
    split (eqb i k)
    (λ q. let p : i ≡ k = eqb-true i k q in rw p at t)
    (λ q.
    let p : i ≡ k → ⊥ = eqb-false i k q in
    every_at f n (suc i) k (sym (every_on f n i t) ∙ e) (omega arith) (omega arith)))
    (λ t.
    let y : every f (suc n) i ≡ false = rw (t, every) in
    let z : ◌≡◌ {A = ℕ} 0 1 = cc in
    absurd (omega arith))

-- where all pass, each passes
pub all_at : (f : ℕ → Bool) (a b : ℕ) → all f a b ≡ true → (k : ℕ) → a ≤ k → k < b → f k ≡ true
unfolding all
all_at f a b e k h g = every_at f (b - a) a k e h (omega arith)
