-- Loops over the rows of a stop and over marked stops: the start, the next entry, the end.
use Prim.Native.Nat.{ℕ, ◌+◌, ◌≤◌, ◌<◌}
use mathlib.Core.Path.{◌≡◌, sym, ap, ◌∙◌}
use mathlib.Core.Bool.{Bool}
use mathlib.Core.List.{List, [], ◌∷◌}
use Rattle.marks.specs.Marks.{first_of}
use Rattle.std.specs.Prelude.{Option, None, Some}
use Rattle.model.specs.Lists.{set_in}
use Rattle.repository.specs.Rows.{rest}
use Rattle.repository.proofs.Lists.{rest_step, rest_end}
use Rattle.allocator.specs.Marked.{after}
use Rattle.allocator.proofs.Visited.{after_start, after_next, after_none}
use Rattle.explorer.specs.Turns.{in_turn, Turn}

module _ {A X : Type 0} {f : A → X → X} {goal : X} where
  next : {a : A} {l k : List A} {x y : X} → Turn f goal l x → l ≡ a ∷ k → y ≡ f a x → Turn f goal k y
  unfolding in_turn
  next {k = k} {x = x} t e g = record { rest = ap (in_turn f k) g ∙ ap (λ (l : List A). in_turn f l x) (sym e) ∙ t.rest }

  end : {l : List A} {x : X} → Turn f goal l x → l ≡ [] → x ≡ goal
  unfolding in_turn
  end {x = x} t e = ap (λ (l : List A). in_turn f l x) (sym e) ∙ t.rest

-- ---- rows, of which r says what stands there, from j up to b
module _ {A X : Type 0} {f : A → X → X} {goal : X} (r : ℕ → A) (j b : ℕ) {x : X}
    (t : Turn f goal (rest r j b) x) where
  pub row_next : {y : X} → j < b → y ≡ f (r j) x → Turn f goal (rest r (j + 1) b) y
  row_next l e = next t (rest_step r l) e

  pub row_end : b ≤ j → x ≡ goal
  row_end l = end t (rest_end r l)

-- ---- marked stops, from i on
pub mark_start : {X : Type 0} (f : ℕ → X → X) (fs : List Bool) (x : X) → Turn f (in_turn f (set_in 0 fs) x) (after 0 fs) x
mark_start f fs x = record { rest = ap (λ (l : List ℕ). in_turn f l x) (after_start fs) }

module _ {X : Type 0} {f : ℕ → X → X} {goal : X} (i : ℕ) (fs : List Bool) {x : X} {a : Option ℕ}
    (t : Turn f goal (after i fs) x)
    (e : a ≡ first_of (after i fs)) where
  pub mark_next : {s : ℕ} {y : X} → a ≡ Some s → y ≡ f s x → Turn f goal (after (s + 1) fs) y
  mark_next g h = next t (after_next i fs (sym g ∙ e)) h

  pub mark_end : a ≡ None → x ≡ goal
  mark_end g = end t (after_none i fs (sym g ∙ e))
