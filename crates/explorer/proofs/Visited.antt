-- What holds of every place set in a list of flags holds of the one that a loop over them visits.
use Prim.Native.Nat.{ℕ, zero, suc, ◌+◌}
use mathlib.Core.Path.{◌≡◌, sym, ◌∙◌, subst}
use mathlib.Core.Bool.{Bool, true, false}
use mathlib.Core.List.{List, [], ◌∷◌}
use native.Mathlib.Nat.{add-zero, zero-add}
use native.Mathlib.Omega.{arith}
use lib.ListN.{drop}
use Rattle.base.specs.Each.{Each, nil, cons}
use Rattle.marks.specs.Marks.{first_of}
use Rattle.std.specs.Prelude.{Option, Some}
use Rattle.model.specs.Lists.{set_in}
use Rattle.allocator.specs.Marked.{after}
use Rattle.allocator.proofs.Visited.{after_next}

drops : (P : ℕ → Type 0) (i j : ℕ) (fs : List Bool) → Each P (set_in j fs) → Each P (set_in (j + i) (drop i fs))
unfolding set_in
drops P zero j fs h = rw (add-zero j) h
drops P (suc i) j [] h = nil
drops P (suc i) j (true ∷ fs) (cons p h) =
    subst (λ (x : ℕ). Each P (set_in x (drop i fs))) (omega arith) (drops P i (suc j) fs h)
drops P (suc i) j (false ∷ fs) h =
    subst (λ (x : ℕ). Each P (set_in x (drop i fs))) (omega arith) (drops P i (suc j) fs h)

later : (P : ℕ → Type 0) (i : ℕ) (fs : List Bool) → Each P (set_in 0 fs) → Each P (after i fs)
unfolding after
later P i fs h = rw (zero-add i) at (drops P i 0 fs h)

pub visited : (P : ℕ → Type 0) (i : ℕ) (fs : List Bool) {a : Option ℕ} {s : ℕ} → Each P (set_in 0 fs)
    → a ≡ first_of (after i fs) → a ≡ Some s → P s
visited P i fs {s = s} h e f = front (subst (Each P) (after_next i fs (sym f ∙ e)) (later P i fs h))
  where
    front : {l : List ℕ} → Each P (s ∷ l) → P s
    front (cons p h) = p
