-- The way back from stop s in round k leads through the parents w to its end: as many legs as there are stops are enough for it.
use Rattle.std.specs.Prelude.{ℕ, ◌≤◌, List, length}
use Rattle.std.specs.Prelude.{Option}
use Rattle.model.specs.declared.Direction.{Direction}
use Rattle.model.specs.declared.Leg.{Leg}
use Rattle.model.specs.Back.{Way}

pub record Traced (d : Direction) (stops : ℕ) (w : List (Option Leg)) (k s : ℕ) : Type 0 where
  pub legs : List Leg
  pub way : Way d stops w k s legs
  pub short : length legs ≤ stops
