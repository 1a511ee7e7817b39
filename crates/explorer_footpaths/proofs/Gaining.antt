-- A footpath takes time: where the label itself gains nothing at the other end, the footpath changes nothing.
use Prim.Native.Nat.{ℕ, zero, suc, ◌+◌, ◌-◌, ◌*◌, ◌≤◌, ◌<◌}
use mathlib.Core.Path.{◌≡◌, refl, sym, ap, ◌∙◌}
use mathlib.Core.Bool.{Bool, true, false, cond}
use mathlib.Core.List.{List}
use native.Mathlib.Omega.{arith}
use lib.ListN.{get_or}
use borrow.Author.Tests.{le-ltb, ltb-false}
use Rattle.model.specs.declared.Direction.{Direction}
use Rattle.model.specs.declared.Direction.TheVariants.{Departure, Arrival}
use Rattle.model.specs.declared.Leg.{Leg}
use Rattle.model.specs.declared.LegType.{LegType}
use Rattle.model.specs.Tables.{Foot}
use Rattle.model.specs.Moments.{or_max, better, ahead}
use Rattle.model.specs.Applying.{wins, apply1}
use Rattle.model.specs.Footpaths.{walked}
use Rattle.model.specs.Work.{Work}
use Rattle.allocator.specs.Layout.{view}
use Rattle.allocator.specs.Workspace.{state, best}
use Rattle.allocator.specs.declared.Workspace.{Workspace}
use Rattle.allocator.specs.Operations.{applied}
use Rattle.explorer.specs.declared.Round.{Round}
use Rattle.explorer.specs.Fused.{offered}
use Rattle.explorer_footpaths.specs.Footing.{Leaving, foot_from}

-- what is no better is no better later; nor, in an arrival search, sooner
later : (x y b : ℕ) → 0 < x → x ≤ y → better Departure x b ≡ false → better Departure y b ≡ false
unfolding better or_max
later zero y b h l e = absurd (omega arith)
later (suc x) zero b h l e = refl
later (suc x) (suc y) b h l e = le-ltb (suc y) (or_max b) (omega (arith, ltb-false (suc x) (or_max b) e))

worse_on : (d : Direction) (x span b : ℕ) → 0 < x → better d x b ≡ false → better d (walked d x span) b ≡ false
unfolding better walked or_max
worse_on Departure zero span b h e = absurd (omega arith)
worse_on Departure (suc x) span b h e = later (suc x) (suc x + span) b h (omega arith) e
worse_on Arrival x span b h e = le-ltb b (x - span) (omega (arith, ltb-false b x e))

-- the best moment that was read
pub gain_is : (d : Direction) (x : ℕ) (l : List ℕ) (s : ℕ) {b : ℕ} {r : Bool} → b ≡ get_or l s 0 → r ≡ better d x b → r ≡ better d x (get_or l s 0)
gain_is d x l s e f = f ∙ ap (better d x) e

-- what does not win changes nothing
lost : (d : Direction) (row target s m : ℕ) (g : Leg) (w : Work) → better d m (get_or w.labels.best s 0) ≡ false
    → w ≡ offered d row target s m g w
unfolding offered applied apply1 wins
lost d row target s m g w e = go (ahead d m target)
  where
    go : (c : Bool) → w ≡ cond c (applied d row s m g w) w
    go true = rw e
    go false = refl

pub path_lost : (round : Round) (c : LegType) (foot : Foot) (w : List ℕ) (space : Workspace) {s x to : ℕ} {b : Bool}
    → Leaving w space.stops space.routes round s x
    → to ≡ foot.to → b ≡ better round.direction x (get_or (best space) to 0) → b ≡ false
    → state space ≡ foot_from round.direction space.stops round.number round.target.0 c s x foot (state space)
unfolding foot_from view
path_lost round c foot w space {s} {x} {to} h et eb f =
    let e : better round.direction x (get_or (best space) foot.to 0) ≡ false = rw (← et) (sym eb ∙ f) in
    lost round.direction (round.number * space.stops) round.target.0 foot.to _ _ (state space)
    (worse_on round.direction x foot.span _ h.label.some e)
