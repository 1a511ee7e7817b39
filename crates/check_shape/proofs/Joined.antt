-- Tests joined by `&&`, one after another, as a definition writes them: where all of it passes, each passes.
use Prim.Native.Nat.{ℕ, zero, suc}
use mathlib.Core.Path.{◌≡◌, refl}
use mathlib.Core.Bool.{Bool, true, ◌&&◌}
use mathlib.Core.List.{List, [], ◌∷◌}
use lib.ListN.{get_or}
use Rattle.base.proofs.Choice.{and_left, and_right}

abbrev pub joined : Bool → List Bool → Bool
joined b [] = b
joined b (c ∷ cs) = joined (b && c) cs

joined_first : (b : Bool) (cs : List Bool) → joined b cs ≡ true → b ≡ true
joined_first b [] e = e
joined_first b (c ∷ cs) e = and_left b c (joined_first (b && c) cs e)

pub joined_at : (b : Bool) (cs : List Bool) → joined b cs ≡ true → (i : ℕ) → get_or cs i true ≡ true
joined_at b [] e i = refl
joined_at b (c ∷ cs) e zero = and_right b c (joined_first (b && c) cs e)
joined_at b (c ∷ cs) e (suc i) = joined_at (b && c) cs e i
