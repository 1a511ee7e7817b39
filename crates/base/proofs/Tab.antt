-- A list by its elements: as a part of another, and one by one.
use mathlib.Core.Path.{◌≡◌, refl, sym, ap, ◌∙◌}
use mathlib.Core.List.{List, [], ◌∷◌, ◌++◌}
use Prim.Native.Nat.{ℕ, zero, suc, ◌+◌, ◌≤◌, ◌<◌}
use native.Mathlib.Omega.{arith}
use native.Mathlib.Nat.{suc-add, add-suc, add-zero, zero-add}
use lib.ListN.{length, get_or, take, drop}
use lib.Seq.{drop-cons}
use Rattle.base.specs.Tab.{tab}

-- a part of a list, whose elements f says
pub tab_part : (w : List ℕ) (f : ℕ → ℕ) (n o i : ℕ) → o + n ≤ length w → ((j : ℕ) → j < n → get_or w (o + j) 0 ≡ f (i + j))
    → take n (drop o w) ≡ tab f n i
unfolding tab
tab_part w f zero o i h e = refl
tab_part w f (suc n) o i h e =
    let g : o < length w = omega arith in
    let a : get_or w o 0 ≡ f i = rw (add-zero o, add-zero i) at (e 0 (omega arith)) in
    let later : (j : ℕ) → j < n → get_or w (suc o + j) 0 ≡ f (suc i + j) =
    λ j k. rw (suc-add o j, suc-add i j) (rw (add-suc o j, add-suc i j) at (e (suc j) (omega arith))) in
    rw (drop-cons w o 0, a) (ap (λ (l : List ℕ). f i ∷ l) (tab_part w f n (suc o) (suc i) (omega arith) later))

-- how long it is, what stands in it, and one more
module _ {A : Type 0} (f : ℕ → A) where
  pub tab_length : (count i : ℕ) → length (tab f count i) ≡ count
  unfolding tab
  tab_length zero i = refl
  tab_length (suc count) i = ap suc (tab_length count (suc i))

  at : (count i k : ℕ) (d : A) → k < count → get_or (tab f count i) k d ≡ f (i + k)
  unfolding tab
  at zero i k d h = absurd (omega arith)
  at (suc count) i zero d h = ap f (sym (add-zero i))
  at (suc count) i (suc k) d h = at count (suc i) k d (omega arith) ∙ ap f (suc-add i k ∙ sym (add-suc i k))

  pub tab_at : (count k : ℕ) (d : A) → k < count → get_or (tab f count 0) k d ≡ f k
  tab_at count k d h = at count 0 k d h ∙ ap f (zero-add k)

  pub tab_more : (count i : ℕ) → tab f (suc count) i ≡ tab f count i ++ (f (i + count) ∷ [])
  unfolding tab
  tab_more zero i = rw (add-zero i)
  tab_more (suc count) i = ap (λ (l : List A). f i ∷ l) (tab_more count (suc i) ∙ rw (suc-add i count, ← (add-suc i count)))

-- by their elements, two are the same
pub tab_same : {A : Type 0} (f g : ℕ → A) (count i : ℕ) → ((k : ℕ) → k < i + count → f k ≡ g k) → tab f count i ≡ tab g count i
unfolding tab
tab_same f g zero i e = refl
tab_same {A} f g (suc count) i e =
    let here : f i ≡ g i = e i (omega arith) in
    let rest : tab f count (suc i) ≡ tab g count (suc i) = tab_same f g count (suc i) (λ k h. e k (omega arith)) in
    rw (here, rest)
