-- The whole leg that bytes begin with, by what `journey::read_leg` answers at their beginning. Assumes nothing.
use Rattle.std.proofs.Common.{◌≡◌, ℕ, ◌≤◌, List, ◌∷◌, [], sym, refl, length, arith, Option, Result, None, Some, Ok, Err}
use Rattle.model.specs.declared.Leg.{Leg}
use Rattle.model.specs.Bytes.{leg_size, first_leg}
use Rattle.journey.specs.declared.BadLeg.{BadLeg}
use Rattle.journey.specs.Reading.{leg_from}
use Rattle.journey.proofs.Told.{told_end, told_whole, told_bad, next_fits}

none_of : (b : List ℕ) → length b ≤ 0 → None ≡ first_leg b
unfolding first_leg
none_of [] h = refl
none_of (x ∷ b) h = absurd (omega arith)

module _ (b : List ℕ) {r : Option (Result Leg BadLeg)} (e : r ≡ leg_from b 0) where
  pub none_left : r ≡ None → None ≡ first_leg b
  none_left w = none_of b (told_end b 0 e w)

  pub none_whole : {v : BadLeg} → r ≡ Some (Err v) → None ≡ first_leg b
  none_whole w = sym (told_bad b 0 e w refl).1

  module _ {g : Leg} {n : ℕ} (w : r ≡ Some (Ok g)) (q : n ≡ leg_size g.kind) where
    pub one_whole : Some g ≡ first_leg b
    one_whole = sym (told_whole b 0 e w refl)

    pub whole_fits : n ≤ length b
    whole_fits = omega (arith, next_fits b 0 e w refl q)
