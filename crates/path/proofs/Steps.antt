-- The step behind a leg: `model`'s `onward` by how much the leg lowers the round.
-- Assumes nothing.
use Prim.Native.Nat.{ℕ, zero, suc, ◌-◌, ◌≤◌, ◌<◌}
use mathlib.Core.Path.{◌≡◌, refl, ap}
use Rattle.std.specs.Prelude.{None, Some}
use native.Mathlib.Omega.{arith}
use Rattle.model.specs.declared.Direction.{Direction}
use Rattle.model.specs.declared.Leg.{Leg}
use Rattle.model.specs.declared.LegType.{LegType}
use Rattle.model.specs.declared.LegType.TheVariants.{Transit, Transfer, Walk}
use Rattle.model.specs.Back.{near, onward}
use Rattle.path.specs.Step.{lowers, step_of}

onward_none : (c : LegType) (k : ℕ) → k < lowers c → onward c k ≡ None
unfolding onward
onward_none (Transit v) zero h = refl
onward_none (Transit v) (suc k) h = absurd (omega arith)
onward_none Transfer k h = absurd (omega arith)
onward_none Walk k h = absurd (omega arith)

onward_some : (c : LegType) (k : ℕ) → lowers c ≤ k → onward c k ≡ Some (k - lowers c)
unfolding onward
onward_some (Transit v) zero h = absurd (omega arith)
onward_some (Transit v) (suc k) h = let e : k ≡ suc k - 1 = omega arith in ap Some e
onward_some Transfer k h = let e : k ≡ k - 0 = omega arith in ap Some e
onward_some Walk k h = let e : k ≡ k - 0 = omega arith in ap Some e

module _ (d : Direction) (k : ℕ) (g : Leg) where
  -- ---- by where `onward` goes
  pub step_done : onward g.kind k ≡ None → None ≡ step_of d k g
  unfolding step_of
  step_done o = rw (o, step_of)

  pub step_on : {j s : ℕ} → s ≡ near d g → onward g.kind k ≡ Some j → Some (record { round = j; stop = s }) ≡ step_of d k g
  unfolding step_of
  step_on q o = rw (o, q, step_of)

  -- ---- as the code asks
  module _ {l : ℕ} (e : l ≡ lowers g.kind) where
    pub last_leg : (l ≤ k → ⊥) → None ≡ step_of d k g
    last_leg h = step_done (onward_none g.kind k (omega arith))

    pub leg_behind : {j s : ℕ} → l ≤ k → j ≡ k - l → s ≡ near d g → Some (record { round = j; stop = s }) ≡ step_of d k g
    leg_behind h i q = step_on q (rw (i, e) (onward_some g.kind k (omega arith)))
