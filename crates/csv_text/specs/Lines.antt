-- "CR LF or LF": a line is what stands before a line feed; behind the last one there is a line where a byte is left. A carriage return that ends
-- a line is no part of it.
use Rattle.std.specs.Prelude.{ℕ, zero, suc, ◌-◌, cond, List, [], ◌∷◌, eqb, length, get_or, take}

-- the bytes before the first line feed, and what stands behind it
unfoldable pub line_of : List ℕ → List ℕ
line_of [] = []
line_of (x ∷ b) = cond (eqb x 10) [] (x ∷ line_of b)

unfoldable pub after_line : List ℕ → List ℕ
after_line [] = []
after_line (x ∷ b) = cond (eqb x 10) b (after_line b)

unfoldable pub trimmed : List ℕ → List ℕ
trimmed l = cond (eqb (get_or l (length l - 1) 0) 13) (take (length l - 1) l) l

-- a line takes a byte at least, so as many lines as bytes are enough
unfoldable pub lines_from : ℕ → List ℕ → List (List ℕ)
lines_from zero b = []
lines_from (suc fuel) [] = []
lines_from (suc fuel) (x ∷ b) = trimmed (line_of (x ∷ b)) ∷ lines_from fuel (after_line (x ∷ b))

unfoldable pub lines : List ℕ → List (List ℕ)
lines b = lines_from (length b) b
