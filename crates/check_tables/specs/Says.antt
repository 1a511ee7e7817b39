-- What each number of the check says of the tables: "The lowest refusal that applies is given, and none otherwise."
use Rattle.std.specs.Prelude.{ℕ, zero, suc, List}
use Rattle.repository.specs.NetOf.{net_of}
use Rattle.repository.specs.Laid.{Laid}
use Rattle.repository.specs.Accepted.{Listed, Timed, Ordered, Measured, Accepted}

-- 0, then 1 to 5: a fault of that number is there, and none of a lower one. The check has no other number
abbrev pub Says : ℕ → List ℕ → Type 0
Says zero w = Accepted w
Says (suc zero) w = Laid w → ⊥
Says (suc (suc zero)) w = Laid w × (Listed w → ⊥)
Says (suc (suc (suc zero))) w = Laid w × Listed w × (Timed (net_of w) → ⊥)
Says (suc (suc (suc (suc zero)))) w = Laid w × Listed w × Timed (net_of w) × (Ordered (net_of w) → ⊥)
Says (suc (suc (suc (suc (suc zero))))) w = Laid w × Listed w × Timed (net_of w) × Ordered (net_of w) × (Measured w → ⊥)
Says (suc (suc (suc (suc (suc (suc k)))))) w = ⊥
