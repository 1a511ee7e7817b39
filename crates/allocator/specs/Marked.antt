-- The marked stops or routes, as a loop visits them: those at or after a place, ascending.
use Rattle.std.specs.Prelude.{Bool, List, ℕ, drop}
use Rattle.model.specs.Lists.{set_in}

unfoldable pub after : ℕ → List Bool → List ℕ
after i fs = set_in i (drop i fs)
