-- The names once a text has got its number.
use Rattle.std.specs.Prelude.{ℕ, cond, List, [], ◌∷◌, ◌++◌, eqb, length}
use Rattle.names.specs.declared.Shelf.{Shelf}

-- the next number is that of a new name, which is put behind the others
unfoldable pub names_with : List (List ℕ) → ℕ → List ℕ → List (List ℕ)
names_with names number t = cond (eqb number (length names)) (names ++ (t ∷ [])) names

-- a shelf of the same book with so many names
abbrev pub counting : Shelf → ℕ → Shelf
counting shelf n = record { cap = shelf.cap; split = shelf.split; count = n }
