-- One footpath, case by case: the moment at its other end, and what it does to the workspace.
use Prim.Native.Nat.{ℕ, zero, suc, ◌+◌, ◌-◌, ◌*◌, ◌≤◌, ◌<◌}
use mathlib.Core.Path.{◌≡◌, refl, ◌∙◌}
use mathlib.Core.Bool.{Bool, true, false}
use native.Mathlib.Omega.{arith}
use Rattle.model.specs.declared.Direction.{Direction}
use Rattle.model.specs.declared.Direction.TheVariants.{Departure, Arrival}
use Rattle.model.specs.declared.Leg.{Leg}
use Rattle.model.specs.declared.LegType.{LegType}
use Rattle.model.specs.Moments.{or_max, ahead}
use Rattle.model.specs.Legs.{leg_of}
use Rattle.model.specs.Footpaths.{walked}
use Rattle.model.specs.Work.{Work}
use Rattle.allocator.specs.Operations.{applied}
use Rattle.explorer.specs.Fused.{offered}
use Rattle.explorer_footpaths.specs.Footing.{Label, foot_from}

-- ---- the moment at the other end
module _ {d : Direction} (x span : ℕ) where
  pub walked_departure : d ≡ Departure → Label x → x + span ≡ walked d x span
  unfolding walked or_max
  walked_departure e h = rw e (go x h.some)
    where
      go : (x : ℕ) → 0 < x → x + span ≡ or_max x + span
      go zero h = absurd (omega arith)
      go (suc x) h = refl

  pub walked_arrival : d ≡ Arrival → x - span ≡ walked d x span
  unfolding walked
  walked_arrival e = rw e

  -- "where the span is not below the label nothing is proposed"
  pub walked_nowhere : d ≡ Arrival → x ≤ span → 0 ≡ walked d x span
  unfolding walked
  walked_nowhere e h = rw e (omega arith)

-- ---- the footpath
module _ (d : Direction) (stops k target : ℕ) (c : LegType) (s x to span : ℕ) (w : Work) {y : ℕ} {r : Bool}
    (ey : y ≡ walked d x span)
    (er : r ≡ ahead d y target) where
  pub path_taken : {g : Leg} {v : Work} → r ≡ true → g ≡ leg_of d c s x to y → v ≡ applied d (k * stops) to y g w
      → v ≡ foot_from d stops k target c s x (record { to = to; span = span }) w
  unfolding foot_from offered
  path_taken t eg ev = ev ∙ rw (eg, ← ey, ← er, t)

  pub path_left : r ≡ false → w ≡ foot_from d stops k target c s x (record { to = to; span = span }) w
  unfolding foot_from offered
  path_left t = rw (← ey, ← er, t)
