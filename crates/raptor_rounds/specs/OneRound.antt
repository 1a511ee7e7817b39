-- A round as the program runs it, and what its parts ask of the state that they find.
use Rattle.std.specs.Prelude.{ℕ, ◌<◌, Bool}
use Rattle.model.specs.declared.Direction.{Direction}
use Rattle.model.specs.declared.Mode.{Mode}
use Rattle.model.specs.Limits.{MOST_ROUNDS}
use Rattle.model.specs.Tables.{Net}
use Rattle.model.specs.Work.{Work}
use Rattle.model.specs.Choosing.{Placed}
use Rattle.allocator.specs.Operations.{holding}
use Rattle.explorer.specs.Fused.{rides_work, feet_work}
use Rattle.explorer_choosing.specs.Chosen.{opened_by}
use Rattle.explorer_footpaths.specs.Footing.{Footing}

unfoldable pub round_work : Direction → Mode → Bool → Net → ℕ → ℕ → Work → Work
round_work d mode walking n k target w = feet_work d n k target walking (holding (rides_work d n k target (opened_by mode d n w)))

-- what the parts of a round ask of the state that they find
pub record Ready (d : Direction) (mode : Mode) (walking : Bool) (n : Net) (k target : ℕ) (w : Work) : Type 0 where
  pub early : k < MOST_ROUNDS
  pub placed : Placed d n (opened_by mode d n w)
  pub footing : Footing n.stops (holding (rides_work d n k target (opened_by mode d n w)))
