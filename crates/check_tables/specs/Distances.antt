-- Number 5 row by row, as `measured` has it.
use Rattle.std.specs.Prelude.{ℕ, Bool, ◌&&◌, ◌||◌, List, leb, eqb}
use Rattle.shared.specs.Walk.{stretch}
use Rattle.model.specs.Moments.{MAX}
use Rattle.model.specs.Limits.{LONGEST_SPAN}
use Rattle.repository.specs.Sections.{transfer_stated, transfer_metres, walk_metres}

unfoldable pub transfer_fit : List ℕ → ℕ → Bool
transfer_fit w j =
    (eqb (transfer_stated w j) MAX || leb (transfer_stated w j) LONGEST_SPAN) && stretch (transfer_metres w j)

unfoldable pub walk_fit : List ℕ → ℕ → Bool
walk_fit w j = stretch (walk_metres w j)
