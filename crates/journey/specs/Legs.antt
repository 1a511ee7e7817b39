-- The legs that a walk along journey bytes gives: "Legs in riding order, nothing else."
use Rattle.std.specs.Prelude.{ℕ, ◌+◌, ◌≡◌, List, [], ◌∷◌}
use Rattle.std.specs.Prelude.{None, Some, Ok}
use Rattle.model.specs.declared.Leg.{Leg}
use Rattle.model.specs.Bytes.{leg_size}
use Rattle.journey.specs.Reading.{leg_from}

-- from offset `at` on `read_leg` gives the legs gs, each where the one before ends, and then says that no byte is left
pub data LegsFrom (b : List ℕ) : ℕ → List Leg → Type 0 where
  over : {at : ℕ} → leg_from b at ≡ None → LegsFrom b at []
  next : {at : ℕ} {gs : List Leg} (g : Leg) → leg_from b at ≡ Some (Ok g) → LegsFrom b (at + leg_size g.kind) gs → LegsFrom b at (g ∷ gs)
