-- Two texts compared byte by byte.
-- Assumes nothing.
use Prim.Native.Nat.{ℕ}
use mathlib.Core.Path.{◌≡◌, refl, ◌∙◌}
use mathlib.Core.Bool.{Bool, true, false≢true}
use mathlib.Core.List.{List, [], ◌∷◌}
use lib.Dec.{eqb}
use lib.Pointwise.{pointwise}
use borrow.Author.Tests.{eqb-true, eq-eqb}
use Rattle.base.proofs.Choice.{split}
use Rattle.csv_text.specs.Texts.{same_text}

pub same_text_lem : (xs ys : List ℕ) → same_text xs ys ≡ true → xs ≡ ys
unfolding same_text
same_text_lem [] [] e = refl
same_text_lem [] (y ∷ ys) e = absurd (false≢true e)
same_text_lem (x ∷ xs) [] e = absurd (false≢true e)
same_text_lem (x ∷ xs) (y ∷ ys) e =
    split (eqb x y)
    (λ t. let p : x ≡ y = eqb-true x y t in let q : xs ≡ ys = same_text_lem xs ys (rw t at e) in rw (p, q))
    (λ t. absurd (false≢true (rw t at e)))

pub same_refl : (xs : List ℕ) → same_text xs xs ≡ true
unfolding same_text
same_refl [] = refl
same_refl (x ∷ xs) = rw (eq-eqb x x refl) (same_refl xs)

-- two slices are compared byte by byte
same_bytes : (xs ys : List ℕ) → pointwise eqb xs ys ≡ same_text xs ys
unfolding same_text
same_bytes [] [] = refl
same_bytes [] (y ∷ ys) = refl
same_bytes (x ∷ xs) [] = refl
same_bytes (x ∷ xs) (y ∷ ys) = split (eqb x y) (λ t. rw t (same_bytes xs ys)) (λ t. rw t)

pub same_slices : (xs ys : List ℕ) {c : Bool} → c ≡ pointwise eqb xs ys → c ≡ same_text xs ys
same_slices xs ys e = e ∙ same_bytes xs ys
