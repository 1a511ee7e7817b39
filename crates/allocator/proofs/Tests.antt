-- The tests of the code are those of the model, case by case.
-- Assumes nothing.
use mathlib.Core.Path.{◌≡◌, refl, ◌∙◌}
use mathlib.Core.Bool.{Bool, true, false}
use Prim.Native.Nat.{ℕ, zero, suc}
use lib.Dec.{ltb}
use Rattle.shared.specs.declared.Time.{Time}
use Rattle.model.specs.declared.Direction.{Direction}
use Rattle.model.specs.declared.Direction.TheVariants.{Departure, Arrival}
use Rattle.model.specs.declared.LegType.{LegType}
use Rattle.model.specs.Choosing.{sooner}
use Rattle.model.specs.Legs.{leg_of}
use Rattle.model.specs.Moments.{MAX, or_max, better, ahead}
use Rattle.allocator.specs.Operations.{blank}

module _ {d : Direction} (t b : ℕ) where
  pub better_none : d ≡ Departure → t ≡ 0 → false ≡ better d t b
  unfolding better
  better_none e z = rw (e, z)

  pub better_first : d ≡ Departure → (t ≡ 0 → ⊥) → b ≡ 0 → ltb t MAX ≡ better d t b
  unfolding better or_max
  better_first e h z = rw (e, z) (go t h)
    where
      go : (t : ℕ) → (t ≡ 0 → ⊥) → ltb t MAX ≡ better Departure t 0
      go zero h = absurd (h refl)
      go (suc t) h = refl

  pub better_later : d ≡ Departure → (t ≡ 0 → ⊥) → (b ≡ 0 → ⊥) → ltb t b ≡ better d t b
  unfolding better or_max
  better_later e h z = rw e (go t b h z)
    where
      go : (t b : ℕ) → (t ≡ 0 → ⊥) → (b ≡ 0 → ⊥) → ltb t b ≡ better Departure t b
      go zero b h z = absurd (h refl)
      go (suc t) zero h z = absurd (z refl)
      go (suc t) (suc b) h z = refl

  pub better_arrival : d ≡ Arrival → ltb b t ≡ better d t b
  unfolding better
  better_arrival e = rw e

-- ---- the target's test
module _ {d : Direction} (t target : ℕ) where
  pub ahead_departure : {r : Bool} → d ≡ Departure → r ≡ better d t target → r ≡ ahead d t target
  unfolding ahead
  ahead_departure e f = f ∙ rw e

  pub ahead_arrival : d ≡ Arrival → true ≡ ahead d t target
  unfolding ahead
  ahead_arrival e = rw e

-- ---- the leg
module _ {d : Direction} (c : LegType) (s to : ℕ) (x y : Time) where
  pub leg_departure : d ≡ Departure
      → record { from = s; to = to; departure = x; arrival = y; kind = c } ≡ leg_of d c s x.0 to y.0
  unfolding leg_of
  leg_departure e = rw e

  pub leg_arrival : d ≡ Arrival
      → record { from = to; to = s; departure = y; arrival = x; kind = c } ≡ leg_of d c s x.0 to y.0
  unfolding leg_of
  leg_arrival e = rw e

-- ---- a route's mark
module _ {d : Direction} (p mark : ℕ) where
  pub sooner_departure : d ≡ Departure → ltb p mark ≡ sooner d p mark
  unfolding sooner
  sooner_departure e = rw e

  pub sooner_arrival : d ≡ Arrival → ltb mark p ≡ sooner d p mark
  unfolding sooner
  sooner_arrival e = rw e

pub blank_departure : {d : Direction} → d ≡ Departure → 4_294_967_295 ≡ blank d
unfolding blank
blank_departure e = rw e

pub blank_arrival : {d : Direction} → d ≡ Arrival → 0 ≡ blank d
unfolding blank
blank_arrival e = rw e
