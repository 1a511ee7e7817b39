-- An arrival search makes no target test: its footpaths are the same whatever the target has seen.
use Prim.Native.Nat.{ℕ}
use mathlib.Core.Path.{◌≡◌, refl, ap, ◌∙◌}
use mathlib.Core.Bool.{Bool, true, false}
use mathlib.Core.List.{List, [], ◌∷◌}
use Rattle.model.specs.declared.Direction.TheVariants.{Arrival}
use Rattle.model.specs.declared.LegType.{LegType}
use Rattle.model.specs.declared.LegType.TheVariants.{Transfer, Walk}
use Rattle.model.specs.Tables.{Foot, Net}
use Rattle.model.specs.Moments.{ahead}
use Rattle.model.specs.Work.{Work}
use Rattle.explorer.specs.Fused.{offered, foot_work, paths_work, stop_work, stops_work, feet_work}

module _ (n : Net) (k a b : ℕ) where
  paths_any : (c : LegType) (s : ℕ) (fs : List Foot) (w : Work)
      → paths_work Arrival n k a c s fs w ≡ paths_work Arrival n k b c s fs w
  unfolding paths_work foot_work offered ahead
  paths_any c s [] w = refl
  paths_any c s (f ∷ fs) w = paths_any c s fs (foot_work Arrival n k a c s f w)

  stop_any : (walking : Bool) (s : ℕ) (w : Work) → stop_work Arrival n k a walking s w ≡ stop_work Arrival n k b walking s w
  unfolding stop_work
  stop_any true s w =
      paths_any Walk s (n.walks s) _
      ∙ ap (paths_work Arrival n k b Walk s (n.walks s)) (paths_any Transfer s (n.transfers s) w)
  stop_any false s w = paths_any Transfer s (n.transfers s) w

  stops_any : (walking : Bool) (ss : List ℕ) (w : Work)
      → stops_work Arrival n k a walking ss w ≡ stops_work Arrival n k b walking ss w
  unfolding stops_work
  stops_any walking [] w = refl
  stops_any walking (s ∷ ss) w =
      stops_any walking ss (stop_work Arrival n k a walking s w)
      ∙ ap (stops_work Arrival n k b walking ss) (stop_any walking s w)

pub any_target : (n : Net) (k a b : ℕ) (walking : Bool) (w : Work) → feet_work Arrival n k a walking w ≡ feet_work Arrival n k b walking w
unfolding feet_work
any_target n k a b walking w = stops_any n k a b walking _ w
