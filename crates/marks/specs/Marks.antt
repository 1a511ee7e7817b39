-- Marked stops, 64 to a word: whether one is marked, the words with one more, the marked stops of a range.
-- Assumes nothing.
use Rattle.std.specs.Prelude.{ℕ, zero, suc, ◌-◌, ◌*◌, ◌/◌, ◌%◌, ◌^◌, ◌<◌, ◌≡◌, Bool, true, false, List, [], ◌∷◌, length, get_or, set, eqb, Option, None, Some}
use Rattle.std.specs.Int.Bits.{bit_or}
use Rattle.base.specs.Bits.{bit}

-- "64 stops to a word": stop s is digit s % 64 of word s / 64
unfoldable pub marked : List ℕ → ℕ → Bool
marked ws s = eqb (bit (get_or ws (s / 64) 0) (s % 64)) 1

-- the words with s marked too
unfoldable pub with_mark : List ℕ → ℕ → List ℕ
with_mark ws s = set ws (s / 64) (bit_or (get_or ws (s / 64) 0) (2 ^ (s % 64)))

-- the words stand for a set of stops: a stop is marked exactly where f takes it
pub record Stand (ws : List ℕ) (f : ℕ → Bool) : Type 0 where
  pub agree : (t : ℕ) → t < 64 * length ws → marked ws t ≡ f t

-- s before l, if b
abbrev pub keep : Bool → ℕ → List ℕ → List ℕ
keep true s l = s ∷ l
keep false s l = l

-- the numbers that f takes among the n from s on, ascending
unfoldable pub chosen_from : (ℕ → Bool) → ℕ → ℕ → List ℕ
chosen_from f zero s = []
chosen_from f (suc n) s = keep (f s) s (chosen_from f n (suc s))

-- the numbers that f takes from `from` up to below `limit`, ascending
unfoldable pub chosen : (ℕ → Bool) → ℕ → ℕ → List ℕ
unfolding chosen_from
chosen f from limit = chosen_from f (limit - from) from

-- the marked stops from `from` up to below `limit`, ascending
abbrev pub marked_stops : List ℕ → ℕ → ℕ → List ℕ
marked_stops ws from limit = chosen (marked ws) from limit

-- the first of a list of stops
abbrev pub first_of : List ℕ → Option ℕ
first_of [] = None
first_of (s ∷ l) = Some s
