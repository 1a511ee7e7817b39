-- Whether an entry of a list passes a test, as a search through the list finds it: it stops at the first that does.
-- Assumes nothing.
use Rattle.std.specs.Prelude.{◌≡◌, Bool, true, false, List, [], ◌∷◌}

unfoldable pub any : {A : Type 0} → (A → Bool) → List A → Bool
any f [] = false
any f (a ∷ l) = elim (f a) [ true ↦ true | false ↦ any f l ]

-- a search that has come to the entries l: they decide
pub record Sought {A : Type 0} (f : A → Bool) (goal : Bool) (l : List A) : Type 0 where
  pub rest : any f l ≡ goal
