-- The text that a field stands for: in quotes a doubled quote stands for one. The reader keeps it doubled; nothing is lost by that.
use Rattle.std.specs.Prelude.{ℕ, ◌<◌, ◌≡◌, cond, ◌&&◌, List, [], ◌∷◌, eqb, length, get_or}

-- two quotes become one
unfoldable pub undoubled : List ℕ → List ℕ
undoubled [] = []
undoubled (x ∷ []) = x ∷ []
undoubled (x ∷ y ∷ t) = cond (eqb x 34 && eqb y 34) (34 ∷ undoubled t) (x ∷ undoubled (y ∷ t))

-- no quote, or quotes in pairs
pub data Paired : List ℕ → Type 0 where
  no_byte : Paired []
  one_byte : {x : ℕ} {t : List ℕ} → (x ≡ 34 → ⊥) → Paired t → Paired (x ∷ t)
  two_quotes : {t : List ℕ} → Paired t → Paired (34 ∷ 34 ∷ t)

-- no two names stand for the same text
pub record StandApart (names : List (List ℕ)) : Type 0 where
  pub apart : (i j : ℕ) → i < length names → j < length names → undoubled (get_or names i []) ≡ undoubled (get_or names j []) → i ≡ j
