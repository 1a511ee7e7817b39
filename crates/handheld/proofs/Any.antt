-- A search through a list: how it goes on and ends, and what it tells of the entries.
-- Assumes nothing.
use Prim.Native.Nat.{ℕ, zero, suc, ◌+◌, ◌-◌, ◌≤◌, ◌<◌}
use mathlib.Core.Path.{◌≡◌, refl, sym, ap, ◌∙◌}
use mathlib.Core.Bool.{Bool, true, false, false≢true}
use mathlib.Core.List.{List, [], ◌∷◌, Memᴰ}
use native.Mathlib.Omega.{arith}
use native.Mathlib.Numerals.{add-one}
use lib.Dec.{eqb}
use borrow.Author.Tests.{eqb-true, eqb-false}
use Rattle.base.proofs.Choice.{split}
use Rattle.model.specs.Lists.{upto}
use Rattle.handheld.specs.Any.{any, Sought}

module _ {A : Type 0} (f : A → Bool) where
  pub any_now : (a : A) (l : List A) → f a ≡ true → any f (a ∷ l) ≡ true
  unfolding any
  any_now a l e = rw (e, any)

  pub any_on : (a : A) (l : List A) → f a ≡ false → any f (a ∷ l) ≡ any f l
  unfolding any
  any_on a l e = rw (e, any)

  -- where one passes, it is one of them
  pub any_at : (l : List A) → any f l ≡ true → (a : A) × Memᴰ a l × (f a ≡ true)
  unfolding any
  any_at [] e = absurd (false≢true e)
  any_at (a ∷ l) e =
      split (f a)
      (λ t. (a, Memᴰ.head refl, t))
      (λ t. let m = any_at l (sym (any_on a l t) ∙ e) in (m.0, Memᴰ.tail m.1, m.2))

  pub any_is : {a : A} {l : List A} → Memᴰ a l → f a ≡ true → any f l ≡ true
  any_is (Memᴰ.head {x = x} {xs = l} p) e = any_now x l (sym (ap f p) ∙ e)
  any_is (Memᴰ.tail {x = x} {xs = l} m) e = split (f x) (λ t. any_now x l t) (λ t. any_on x l t ∙ any_is m e)

-- ---- the loop
module _ {A : Type 0} {f : A → Bool} {goal : Bool} where
  pub sought_next : {a : A} {l k : List A} → Sought f goal l → l ≡ a ∷ k → f a ≡ false → Sought f goal k
  sought_next {a} {l} {k} h e t = record { rest = sym (any_on f a k t) ∙ ap (any f) (sym e) ∙ h.rest }

  pub sought_found : {a : A} {l k : List A} → Sought f goal l → l ≡ a ∷ k → f a ≡ true → true ≡ goal
  sought_found {a} {l} {k} h e t = sym (any_now f a k t) ∙ ap (any f) (sym e) ∙ h.rest

  pub sought_none : {l : List A} → Sought f goal l → l ≡ [] → false ≡ goal
  unfolding any
  sought_none h e = ap (any f) (sym e) ∙ h.rest

-- ---- through the numbers from i up to b
pub upto_step : (i b : ℕ) → i < b → upto (b - i) i ≡ i ∷ upto (b - (i + 1)) (i + 1)
unfolding upto
upto_step i b h = let more : b - i ≡ suc (b - (i + 1)) = omega arith in rw (more, add-one, upto)

pub upto_end : (i b : ℕ) → b ≤ i → upto (b - i) i ≡ []
unfolding upto
upto_end i b h = let none : b - i ≡ 0 = omega arith in rw none

-- which numbers these are
pub upto_in : (n i : ℕ) {k : ℕ} → Memᴰ k (upto n i) → (i ≤ k) × (k < i + n)
unfolding upto
upto_in zero i {k = k} x' = elim x' [ ]
upto_in (suc n) i (Memᴰ.head p) = (omega (arith, p), omega (arith, p))
upto_in (suc n) i (Memᴰ.tail m) = let h = upto_in n (suc i) m in (omega (arith, h.0), omega (arith, h.1))

pub upto_has : (n i k : ℕ) → i ≤ k → k < i + n → Memᴰ k (upto n i)
unfolding upto
upto_has zero i k h g = absurd (omega arith)
upto_has (suc n) i k h g =
    split (eqb i k)
    (λ t. Memᴰ.head (sym (eqb-true i k t)))
    (λ t. let p : i ≡ k → ⊥ = eqb-false i k t in Memᴰ.tail (upto_has n (suc i) k (omega arith) (omega arith)))

-- the loop over them
module _ {f : ℕ → Bool} {goal : Bool} (i b : ℕ) (h : Sought f goal (upto (b - i) i)) where
  pub number_next : {x : Bool} → i < b → x ≡ f i → x ≡ false → Sought f goal (upto (b - (i + 1)) (i + 1))
  number_next l e t = sought_next h (upto_step i b l) (sym e ∙ t)

  pub number_found : {x : Bool} → i < b → x ≡ f i → x ≡ true → true ≡ goal
  number_found l e t = sought_found h (upto_step i b l) (sym e ∙ t)

  pub number_none : b ≤ i → false ≡ goal
  number_none l = sought_none h (upto_end i b l)
