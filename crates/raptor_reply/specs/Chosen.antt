-- What a search leaves that the reply rests on: where a stop is chosen, the parents lead from it to a beginning.
use Rattle.std.specs.Prelude.{ℕ, ◌<◌, List}
use Rattle.std.specs.Prelude.{Option}
use Rattle.model.specs.declared.Direction.{Direction}
use Rattle.model.specs.declared.Leg.{Leg}
use Rattle.model.specs.declared.Target.{Target}
use Rattle.model.specs.Limits.{MOST_ROUNDS}
use Rattle.model.specs.Back.{back, in_order}
use Rattle.path.specs.Traced.{Traced}

pub record Chosen (d : Direction) (stops : ℕ) (w : List (Option Leg)) (aimed : Target) : Type 0 where
  pub traced : 0 < aimed.time.0 → Traced d stops w aimed.round aimed.stop
  pub in_rounds : 0 < aimed.time.0 → aimed.round < MOST_ROUNDS

-- the legs from the target back, in riding order
unfoldable pub legs_back : Direction → ℕ → List (Option Leg) → Target → List Leg
legs_back d stops w aimed = in_order d (back d stops w stops aimed.round aimed.stop)
