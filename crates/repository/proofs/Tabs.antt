-- Lists that a function tells entry by entry: what stands in them, what holds of each entry, and their order.
use Prim.Native.Nat.{ℕ, zero, suc, ◌+◌, ◌≤◌, ◌<◌}
use mathlib.Core.Path.{◌≡◌, refl, sym, ap, ◌∙◌}
use mathlib.Core.Logic.{◌≢◌}
use mathlib.Core.List.{List, [], ◌∷◌, Memᴰ}
use native.Mathlib.Omega.{arith}
use native.Mathlib.Nat.{add-suc}
use native.Mathlib.Decide.{dec_lt}
use Rattle.base.specs.Tab.{tab}
use Rattle.base.specs.Each.{Each, nil, cons}
use Rattle.base.specs.Distinct.{Distinct, empty, front}

pub tab_shift : (f g : ℕ → ℕ) (n i a : ℕ) → ((p : ℕ) → f (a + p) ≡ g p) → tab f n (a + i) ≡ tab g n i
unfolding tab
tab_shift f g zero i a e = refl
tab_shift f g (suc n) i a e =
    ap (λ (x : ℕ). x ∷ tab f n (suc (a + i))) (e i)
    ∙ ap (λ (l : List ℕ). g i ∷ l) (rw (← add-suc) (tab_shift f g n (suc i) a e))

-- ---- what stands in a list, f says at some place

pub record Said {A : Type 0} (f : ℕ → A) (a b : ℕ) (x : A) : Type 0 where
  pub row : ℕ
  pub from : a ≤ row
  pub past : row < b
  pub says : x ≡ f row

module _ {A : Type 0} (f : ℕ → A) {x : A} where
  pub tab_said : (n i : ℕ) → Memᴰ x (tab f n i) → Said f i (i + n) x
  unfolding tab
  tab_said zero i m = elim m [ ]
  tab_said (suc n) i (Memᴰ.head e) = record { row = i; from = omega arith; past = omega arith; says = e }
  tab_said (suc n) i (Memᴰ.tail m) =
      let y = tab_said n (suc i) m in
      record { row = y.row; from = omega (arith, y.from); past = omega (arith, y.past); says = y.says }

  pub tab_says : (n i : ℕ) → Said f i (i + n) x → Memᴰ x (tab f n i)
  unfolding tab
  tab_says zero i y = absurd (omega (arith, y.from, y.past))
  tab_says (suc n) i y =
      elim (dec_lt i y.row) [
        | yes l ↦ Memᴰ.tail (tab_says n (suc i) (record {
          row =
              y.row;
          from = l;
          past = omega (arith, y.past);
          says = y.says;
        }))
        | no l ↦ let same : y.row ≡ i = omega (arith, y.from) in Memᴰ.head (y.says ∙ ap f same)
      ]

-- ---- what f keeps, each entry has

pub tab_each : (P : ℕ → Type 0) (f : ℕ → ℕ) (n i : ℕ) → ((j : ℕ) → i ≤ j → j < i + n → P (f j)) → Each P (tab f n i)
unfolding tab
tab_each P f zero i h = nil
tab_each P f (suc n) i h =
    cons (h i (omega arith) (omega arith)) (tab_each P f n (suc i) (λ j l g. h j (omega arith) (omega arith)))

pub tab_distinct : (f : ℕ → ℕ) (n i : ℕ) → ((j k : ℕ) → i ≤ j → j < k → k < i + n → f j ≢ f k) → Distinct (tab f n i)
unfolding tab
tab_distinct f zero i h = empty
tab_distinct f (suc n) i h =
    front (tab_each (λ (y : ℕ). y ≢ f i) f n (suc i) (λ j l g e. h i j (omega arith) l (omega arith) (sym e)))
    (tab_distinct f n (suc i) (λ j k l g m. h j k (omega arith) g (omega arith)))

-- each entry is below all that follow: so they ascend, and none stands twice
pub data Ascending : List ℕ → Type 0 where
  none : Ascending []
  one : {x : ℕ} {xs : List ℕ} → Each (λ y. x < y) xs → Ascending xs → Ascending (x ∷ xs)

pub tab_ascends : (f : ℕ → ℕ) (n i : ℕ) → ((j k : ℕ) → i ≤ j → j < k → k < i + n → f j < f k) → Ascending (tab f n i)
unfolding tab
tab_ascends f zero i h = none
tab_ascends f (suc n) i h =
    one (tab_each (λ (y : ℕ). f i < y) f n (suc i) (λ j l g. h i j (omega arith) l (omega arith)))
    (tab_ascends f n (suc i) (λ j k l g m. h j k (omega arith) g (omega arith)))
