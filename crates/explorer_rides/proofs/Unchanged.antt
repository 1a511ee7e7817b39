-- What a ride leaves as it was: the choice of routes.
use Prim.Native.Nat.{ℕ}
use mathlib.Core.Path.{◌≡◌, refl, ◌∙◌}
use mathlib.Core.Bool.{Bool, true, false, cond}
use mathlib.Core.List.{List, [], ◌∷◌}
use lib.ListN.{get_or}
use Rattle.model.specs.declared.Direction.{Direction}
use Rattle.model.specs.declared.Leg.{Leg}
use Rattle.model.specs.Tables.{Net}
use Rattle.model.specs.Moments.{ahead}
use Rattle.std.specs.Prelude.{Option, Some, None}
use Rattle.model.specs.Rides.{Aboard, course}
use Rattle.model.specs.Work.{Work}
use Rattle.repository.specs.NetOf.{net_of}
use Rattle.allocator.specs.Layout.{view}
use Rattle.allocator.specs.Workspace.{state, active, mask, Becomes}
use Rattle.allocator.specs.declared.Workspace.{Workspace}
use Rattle.allocator.specs.Operations.{applied}
use Rattle.explorer.specs.declared.Round.{Round}
use Rattle.explorer.specs.Fused.{offered, alight_work, scan_work, route_work}

record Same (x y : Work) : Type 0 where
  active : y.active ≡ x.active
  mask : y.mask ≡ x.mask

same_then : {x y z : Work} → Same x y → Same y z → Same x z
same_then a b = record { active = b.active ∙ a.active; mask = b.mask ∙ a.mask }

offer_same : (d : Direction) (row target s m : ℕ) (g : Leg) (x : Work) → Same x (offered d row target s m g x)
unfolding offered applied
offer_same d row target s m g x = go (ahead d m target)
  where
    go : (b : Bool) → Same x (cond b (applied d row s m g x) x)
    go true = record { active = refl; mask = refl }
    go false = record { active = refl; mask = refl }

module _ (d : Direction) (n : Net) (k target r : ℕ) where
  alight_same : (p : ℕ) (a : Option Aboard) (x : Work) → Same x (alight_work d n k target r p a x)
  unfolding alight_work
  alight_same p None x = record { active = refl; mask = refl }
  alight_same p (Some a) x = offer_same d _ target _ _ _ x

  scan_same : (ps : List ℕ) (a : Option Aboard) (x : Work) → Same x (scan_work d n k target r ps a x)
  unfolding scan_work
  scan_same [] a x = record { active = refl; mask = refl }
  scan_same (p ∷ ps) a x = same_then (alight_same p a x) (scan_same ps _ (alight_work d n k target r p a x))

  route_same : (x : Work) → Same x (route_work d n k target r x)
  unfolding route_work
  route_same x = scan_same (course d n r (get_or x.active r 0)) None x

module _ (w : List ℕ) (round : Round) (r : ℕ) (space space' : Workspace)
    (f : Becomes (route_work round.direction (net_of w) round.number round.target.0 r) space space') where
  same : Same (state space) (state space')
  same = rw f.holds (route_same round.direction (net_of w) round.number round.target.0 r (state space))

  pub route_mask : mask space' ≡ mask space
  unfolding view
  route_mask = same.mask

  pub route_active : active space' ≡ active space
  unfolding view
  route_active = same.active
