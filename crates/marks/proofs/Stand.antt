-- Marks that stand for a set of stops: a caller speaks of the set, and never of words and digits.
-- Assumes nothing.
use mathlib.Core.Path.{◌≡◌, refl, ◌∙◌}
use mathlib.Core.Bool.{Bool, true, false, ◌||◌}
use mathlib.Core.List.{List}
use Prim.Native.Nat.{ℕ, ◌*◌, ◌<◌}
use native.Mathlib.Omega.{arith}
use borrow.Author.Tests.{eqb-true, eqb-false}
use lib.Dec.{eqb}
use lib.ListN.{length}
use Rattle.base.proofs.Choice.{split}
use Rattle.marks.specs.Marks.{marked, with_mark, Stand}
use Rattle.marks.proofs.Laws.{mark_length, mark_same, mark_other}

abbrev pub with_one : (ℕ → Bool) → ℕ → ℕ → Bool
with_one f s t = f t || eqb t s

pub stand_more : (ws : List ℕ) (f : ℕ → Bool) (s : ℕ) → s < 64 * length ws → Stand ws f
    → Stand (with_mark ws s) (with_one f s)
stand_more ws f s h p = record { agree = at_each }
  where
    yes : (b : Bool) → true ≡ b || true
    yes true = refl
    yes false = refl

    no : (b : Bool) → b ≡ b || false
    no true = refl
    no false = refl

    at_each : (t : ℕ) → t < 64 * length (with_mark ws s) → marked (with_mark ws s) t ≡ f t || eqb t s
    at_each t l =
        split (eqb t s)
        (λ e. rw (e, eqb-true t s e) (mark_same ws s h ∙ yes (f s)))
        (λ e. rw e (mark_other ws s t h (eqb-false t s e) ∙ p.agree t (omega (arith, mark_length ws s)) ∙ no (f t)))
