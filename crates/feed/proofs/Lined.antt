-- A line that is written is the first line that is read.
-- Assumes nothing.
use Prim.Native.Nat.{ℕ, zero, suc, ◌-◌, ◌≤◌, ◌<◌}
use mathlib.Core.Path.{◌≡◌, refl, ap, ◌∙◌}
use mathlib.Core.List.{List, ◌∷◌, ◌++◌}
use native.Mathlib.Omega.{arith}
use lib.ListN.{length, get_or, length-append}
use borrow.Author.Tests.{ne_eqb}
use Rattle.base.specs.Each.{Each, nil, cons}
use Rattle.csv_text.specs.Lines.{line_of, after_line, trimmed, lines}
use Rattle.csv_text.proofs.Stepping.{lines_step}

-- a byte that neither ends a line (10, 13) nor a field (34, 44), and one that may stand between fields
abbrev pub Inner : ℕ → Type 0
Inner x = 44 < x

abbrev pub OfLine : ℕ → Type 0
OfLine x = 44 ≤ x

line_of_lem : {l : List ℕ} (r : List ℕ) → Each OfLine l → line_of (l ++ (10 ∷ r)) ≡ l
unfolding line_of
line_of_lem r nil = refl
line_of_lem r (cons {x = x} {xs = l} d h) = rw (ne_eqb x 10 (λ e. omega arith)) (ap (λ (t : List ℕ). x ∷ t) (line_of_lem r h))

after_line_lem : {l : List ℕ} (r : List ℕ) → Each OfLine l → after_line (l ++ (10 ∷ r)) ≡ r
unfolding after_line
after_line_lem r nil = refl
after_line_lem r (cons {x = x} {xs = l} d h) = rw (ne_eqb x 10 (λ e. omega arith)) (after_line_lem r h)

last_at : {l : List ℕ} → Each OfLine l → (i : ℕ) → get_or l i 0 ≡ 13 → ⊥
last_at nil i e = let z : ◌≡◌ {A = ℕ} 0 13 = e in omega arith
last_at (cons d h) zero e = omega arith
last_at (cons d h) (suc i) e = last_at h i e

not_trimmed : {l : List ℕ} → Each OfLine l → trimmed l ≡ l
unfolding trimmed
not_trimmed {l} h = rw (ne_eqb (get_or l (length l - 1) 0) 13 (last_at h (length l - 1)))

pub lines_lined : {l : List ℕ} (r : List ℕ) → Each OfLine l → lines (l ++ (10 ∷ r)) ≡ l ∷ lines r
lines_lined {l} r h =
    let some_byte : 0 < length (l ++ (10 ∷ r)) = omega (arith, length-append l (10 ∷ r)) in
    let q : trimmed (line_of (l ++ (10 ∷ r))) ≡ l = ap trimmed (line_of_lem r h) ∙ not_trimmed h in
    lines_step (l ++ (10 ∷ r)) some_byte ∙ rw (q, after_line_lem r h)
