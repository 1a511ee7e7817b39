-- The whole legs that bytes begin with, one by one.
use Rattle.std.specs.Prelude.{◌≡◌, List, ℕ, drop, Option, Some, None}
use Rattle.model.specs.declared.Leg.{Leg}
use Rattle.model.specs.Bytes.{first_leg, leg_size}
use Rattle.print.specs.declared.WholeLegs.{WholeLegs}

-- the bytes behind a leg that was given
abbrev pub bytes_behind : List ℕ → Option Leg → List ℕ
bytes_behind b None = b
bytes_behind b (Some g) = drop (leg_size g.kind) b

-- the legs r give the leg that their bytes begin with, if there is one, and are then what stands behind it
abbrev pub GivesWhole : WholeLegs → Option Leg → WholeLegs → Type 0
GivesWhole r given s = (given ≡ first_leg r.rest.now) × (s.rest.now ≡ bytes_behind r.rest.now given)
