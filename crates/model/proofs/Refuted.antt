-- Journeys that nobody can make, which the definitions shut out: a footpath that leaves at a stand-in for a moment, and a reported
-- departure at which nothing leaves.
use Prim.Native.Nat.{ℕ}
use mathlib.Core.Path.{◌≡◌}
use mathlib.Core.Bool.{true}
use mathlib.Core.List.{[], ◌∷◌}
use native.Mathlib.Omega.{arith}
use Rattle.model.specs.declared.Direction.TheVariants.{Departure}
use Rattle.model.specs.declared.Leg.{Leg}
use Rattle.model.specs.declared.LegType.TheVariants.{Transit, Transfer}
use Rattle.model.specs.Journey.{Chain, ride_on, walk_on, Departing, Arriving}
use Rattle.model.proofs.Examples.{N}
use Rattle.model.proofs.SoundN.{N_sound}
use Rattle.model.proofs.Dated.{timed_bounds}

-- trip 0 of network N from stop 0 to stop 2
abbrev ride : Leg
ride = record { from = 0; to = 2; departure = record { 0 = 100 }; arrival = record { 0 = 300 }; kind = Transit 0 }

-- its transfer from stop 2 to stop 3, leaving 30 seconds before MAX
abbrev never : Leg
never = record { from = 2; to = 3; departure = record { 0 = 4_294_967_265 }; arrival = record { 0 = 4_294_967_295 }; kind = Transfer }

-- nobody comes to stop 3 at MAX by waiting at stop 2 until no bus is there any more
pub no_stand_in : Departing N true (0 ∷ []) 50 3 4_294_967_295 1 (ride ∷ never ∷ []) → ⊥
no_stand_in j = go j.chain
  where
    go : {s : ℕ} → Chain Departure N true s 50 3 4_294_967_295 1 (ride ∷ never ∷ []) → ⊥
    go (ride_on g r e x (walk_on h w t f y c)) = omega (arith, (timed_bounds N N_sound Departure never t).1)
    go (walk_on g w t e x c) = w.allowed

-- a ride that leaves at 100 is not reported as leaving at 1
pub no_early_report : Arriving N true (2 ∷ []) 300 0 1 1 (ride ∷ []) → ⊥
no_early_report j = let z : ◌≡◌ {A = ℕ} 100 1 = j.leaves in omega arith
