-- The end-of-round scan: one goal.
use Rattle.std.specs.Prelude.{ℕ, cond, List, get_or}
use Rattle.model.specs.declared.Direction.{Direction}
use Rattle.model.specs.declared.Target.{Target}
use Rattle.model.specs.Moments.{better}

-- the target after one goal: "taking strict improvements only"
unfoldable pub taken : Direction → ℕ → List ℕ → ℕ → Target → Target
taken d k best s aimed = cond (better d (get_or best s 0) aimed.time.0) (record { stop = s; round = k; time = record { 0 = get_or best s 0 } }) aimed
