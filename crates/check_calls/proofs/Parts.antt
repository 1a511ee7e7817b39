-- What a later part asks of an earlier one.
-- Assumes nothing.
use Prim.Native.Nat.{ℕ}
use mathlib.Core.Path.{◌≡◌, sym, ◌∙◌}
use mathlib.Core.Bool.{Bool, true}
use mathlib.Core.List.{List}
use Rattle.repository.specs.Listed.{calls_rise}

pub calls_rose : (w : List ℕ) {b : Bool} → b ≡ calls_rise w → b ≡ true → calls_rise w ≡ true
calls_rose w e t = sym e ∙ t
