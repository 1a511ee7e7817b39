-- A list as a loop goes through it: the entry that it comes to, and what is left.
use Prim.Native.Nat.{ℕ, ◌+◌, ◌<◌}
use mathlib.Core.Path.{◌≡◌, sym, ap, ◌∙◌}
use mathlib.Core.List.{List, ◌∷◌}
use native.Mathlib.Numerals.{add-one}
use lib.ListN.{length, get_or, drop}
use lib.Seq.{drop-cons}
use Rattle.base.specs.Below.{Below}

pub entry_below : {n : ℕ} {l : List ℕ} (i : ℕ) → Below n l → i < length l → get_or l i 0 < n
entry_below i h lt = h.below i lt

-- what is left of a list at place i, with the entry there in front
pub left_at : (l : List ℕ) (i : ℕ) → i < length l → drop i l ≡ get_or l i 0 ∷ drop (i + 1) l
left_at l i h = drop-cons l i 0 h ∙ ap (λ (j : ℕ). get_or l i 0 ∷ drop j l) (sym (add-one i))
