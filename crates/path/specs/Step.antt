-- Where the way back goes on behind a leg, as the code answers with it.
use Rattle.std.specs.Prelude.{ℕ, Option, None, Some}
use Rattle.model.specs.declared.Direction.{Direction}
use Rattle.model.specs.declared.Leg.{Leg}
use Rattle.model.specs.declared.LegType.{LegType}
use Rattle.model.specs.declared.LegType.TheVariants.{Transit, Transfer, Walk}
use Rattle.model.specs.Back.{near, onward}
use Rattle.path.specs.declared.Step.{Step}

-- "a ride lowers the round": by how much the round of the way back falls behind a leg
abbrev pub lowers : LegType → ℕ
lowers (Transit v) = 1
lowers Transfer = 0
lowers Walk = 0

-- where `model`'s way back goes on behind a leg of round k
unfoldable pub step_of : Direction → ℕ → Leg → Option Step
step_of d k g = elim (onward g.kind k) [ None ↦ None | Some j ↦ Some (record { round = j; stop = near d g }) ]
