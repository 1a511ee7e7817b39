-- How a scan goes from position to position: "from the mark to the end", in an arrival search "from the mark down to 0".
use Rattle.std.specs.Prelude.{ℕ, zero, suc, ◌+◌}
use Rattle.model.specs.declared.Direction.{Direction}
use Rattle.model.specs.declared.Direction.TheVariants.{Departure, Arrival}
use Rattle.model.specs.Moments.{MAX}

-- where the scan of a route with positions below `end` ends: below the first position is MAX
unfoldable pub past_of : Direction → ℕ → ℕ
past_of Departure end = end
past_of Arrival end = MAX

-- the position that comes after p
unfoldable pub next_of : Direction → ℕ → ℕ
next_of Departure p = p + 1
next_of Arrival zero = MAX
next_of Arrival (suc p) = p
