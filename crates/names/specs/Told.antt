-- A name's number as the code answers with it.
use Rattle.std.specs.Prelude.{ℕ, zero, suc, Option, None, Some}

unfoldable pub found_as : ℕ → Option ℕ
found_as zero = None
found_as (suc i) = Some i
