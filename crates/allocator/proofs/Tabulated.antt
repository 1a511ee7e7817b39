-- A list by what stands at each place: two that agree, one that differs at one place, and what is left of it.
-- Assumes nothing.
use mathlib.Core.Path.{◌≡◌, sym, ap, ◌∙◌}
use mathlib.Core.List.{List}
use Prim.Native.Nat.{ℕ, zero, suc, ◌+◌, ◌-◌, ◌<◌}
use native.Mathlib.Nat.{add-zero}
use native.Mathlib.Omega.{arith}
use borrow.Author.Tests.{eqb-true, eqb-false}
use lib.Dec.{eqb}
use lib.ListN.{get_or, set, drop, replicate, length-set, length-replicate, get_or-replicate}
use lib.Seq.{get_or-set_same, get_or-set_other, ext_get_or}
use Rattle.base.proofs.Choice.{split}
use Rattle.base.specs.Tab.{tab}
use Rattle.base.proofs.Tab.{tab_length, tab_at}

module _ {A : Type 0} (f : ℕ → A) where
  pub tab_drop : (count i k : ℕ) → drop k (tab f count i) ≡ tab f (count - k) (i + k)
  unfolding tab
  tab_drop count i zero = let e : count - 0 ≡ count = omega arith in rw (add-zero, e)
  tab_drop zero i (suc k) = let e : 0 - suc k ≡ 0 = omega arith in rw e
  tab_drop (suc count) i (suc k) =
      let e : suc count - suc k ≡ count - k = omega arith in
      let there : suc i + k ≡ i + suc k = omega arith in
      rw (e, ← there) (tab_drop count (suc i) k)

  pub tab_all : (count : ℕ) (v : A) → ((k : ℕ) → k < count → f k ≡ v) → tab f count 0 ≡ replicate count v
  tab_all count v e =
      let long = tab_length f count 0 in
      ext_get_or v (tab f count 0) (replicate count v) (long ∙ sym (length-replicate count v))
      (λ k l.
      let h : k < count = omega arith in
      tab_at f count k v h ∙ e k h ∙ sym (get_or-replicate count k v v h))

module _ {A : Type 0} (f g : ℕ → A) (count : ℕ) where
  pub tab_set : (i : ℕ) (v : A) → i < count → g i ≡ v → ((k : ℕ) → k < count → (k ≡ i → ⊥) → g k ≡ f k)
      → tab g count 0 ≡ set (tab f count 0) i v
  tab_set i v b here e =
      let long = tab_length g count 0 in
      let old = tab_length f count 0 in
      ext_get_or v (tab g count 0) (set (tab f count 0) i v) (long ∙ sym (length-set (tab f count 0) i v ∙ old))
      (λ k l.
      let h : k < count = omega arith in
      split (eqb k i)
      (λ t.
      let same : k ≡ i = eqb-true k i t in
      rw same (tab_at g count i v b ∙ here ∙ sym (get_or-set_same (tab f count 0) i v v (omega arith))))
      (λ t.
      let other : k ≡ i → ⊥ = eqb-false k i t in
      tab_at g count k v h ∙ e k h other ∙ sym (get_or-set_other (tab f count 0) i k v v other ∙ tab_at f count k v h)))

  -- equal lists have equal elements
  pub tab_each : A → tab g count 0 ≡ tab f count 0 → (k : ℕ) → k < count → g k ≡ f k
  tab_each d e k h = sym (tab_at g count k d h) ∙ ap (λ (l : List A). get_or l k d) e ∙ tab_at f count k d h
