-- Entries of a list taken in turn, and what holds at each turn of such a loop: the entries that are left lead where all
-- of them lead.
-- Assumes nothing.
use Rattle.std.specs.Prelude.{◌≡◌, List, [], ◌∷◌}

unfoldable pub in_turn : {A X : Type 0} → (A → X → X) → List A → X → X
in_turn f [] x = x
in_turn f (a ∷ l) x = in_turn f l (f a x)

-- the entries l are left, x is reached, and they lead to `goal`
pub record Turn {A X : Type 0} (f : A → X → X) (goal : X) (l : List A) (x : X) : Type 0 where
  pub rest : in_turn f l x ≡ goal
