-- Lists of numbers below a bound: of stops, where the bound is how many there are.
use Rattle.std.specs.Prelude.{ℕ, ◌<◌, List, length, get_or}

-- every entry of the list is below n
pub record Below (n : ℕ) (l : List ℕ) : Type 0 where
  pub below : (i : ℕ) → i < length l → get_or l i 0 < n
