-- Rows of four words taken in turn: the next row, and the rows behind it.
-- Assumes nothing.
use Prim.Native.Nat.{ℕ, zero, suc, ◌+◌, ◌/◌, ◌≤◌, ◌<◌}
use mathlib.Core.Path.{◌≡◌, refl, sym, ap, ◌∙◌}
use mathlib.Core.List.{List, [], ◌∷◌, map}
use native.Mathlib.Omega.{arith}
use native.Mathlib.Numerals.{add-one}
use lib.ListN.{length, get_or, drop, drop_of_length-le}
use lib.Seq.{drop-cons}
use Rattle.std.proofs.lemmas.List.{drop-map}
use Rattle.std.specs.Simd.{first_chunks}
use Rattle.feed.specs.Rows.{fours_in}

-- the four words of a row, as an entry
abbrev pub row_by : {A : Type 0} → (ℕ → ℕ → ℕ → ℕ → A) → List ℕ → A
row_by f r = f (get_or r 0 0) (get_or r 1 0) (get_or r 2 0) (get_or r 3 0)

rows_in : {A : Type 0} (f : ℕ → ℕ → ℕ → ℕ → A) (n : ℕ) (w : List ℕ) → length w / 4 ≡ n → fours_in f w ≡ map (row_by f) (first_chunks 4 n w)
unfolding fours_in
rows_in f zero [] e = refl
rows_in f zero (a ∷ []) e = refl
rows_in f zero (a ∷ b ∷ []) e = refl
rows_in f zero (a ∷ b ∷ c ∷ []) e = refl
rows_in f zero (a ∷ b ∷ c ∷ d ∷ w) e = absurd (omega arith)
rows_in f (suc n) [] e = absurd (omega arith)
rows_in f (suc n) (a ∷ []) e = absurd (omega arith)
rows_in f (suc n) (a ∷ b ∷ []) e = absurd (omega arith)
rows_in f (suc n) (a ∷ b ∷ c ∷ []) e = absurd (omega arith)
rows_in f (suc n) (a ∷ b ∷ c ∷ d ∷ w) e = rw (rows_in f n w (omega arith))

module _ {A : Type 0} (f : ℕ → ℕ → ℕ → ℕ → A) (w : List ℕ) {rows : List (List ℕ)} (e : rows ≡ first_chunks 4 (length w / 4) w) (k : ℕ) where
  all : fours_in f w ≡ map (row_by f) rows
  all = rows_in f (length w / 4) w refl ∙ ap (λ (r : List (List ℕ)). map (row_by f) r) (sym e)

  pub rows_next : k < length rows → drop k (fours_in f w) ≡ row_by f (get_or rows k []) ∷ drop (k + 1) (fours_in f w)
  rows_next h = rw (all, drop-map (row_by f) k rows, drop-map (row_by f) (k + 1) rows, add-one, drop-cons rows k [] h)

  pub rows_none : length rows ≤ k → drop k (fours_in f w) ≡ []
  rows_none h = rw (all, drop-map (row_by f) k rows, drop_of_length-le rows h)
