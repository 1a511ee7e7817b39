-- Footpaths change neither the labels nor the marks that are held.
use Prim.Native.Nat.{ℕ}
use mathlib.Core.Path.{◌≡◌, refl, ap, ◌∙◌}
use mathlib.Core.Bool.{Bool, true, false}
use mathlib.Core.List.{List, [], ◌∷◌}
use lib.ListN.{get_or}
use Rattle.base.proofs.Choice.{cond_elim}
use Rattle.model.specs.declared.Direction.{Direction}
use Rattle.model.specs.declared.Leg.{Leg}
use Rattle.model.specs.declared.LegType.{LegType}
use Rattle.model.specs.declared.LegType.TheVariants.{Transfer, Walk}
use Rattle.model.specs.Tables.{Foot, Net}
use Rattle.model.specs.Moments.{ahead}
use Rattle.model.specs.Work.{Work}
use Rattle.allocator.specs.Operations.{applied}
use Rattle.explorer.specs.Fused.{offered, foot_work, paths_work, stop_work, stops_work}
use Rattle.explorer.specs.Turns.{in_turn}
use Rattle.explorer_footpaths.specs.Footing.{foot_from}

-- two workspaces hold the same labels and marks
pub record SameHeld (w v : Work) : Type 0 where
  pub labels : v.held ≡ w.held
  pub marks : v.held_mark ≡ w.held_mark

same : (w : Work) → SameHeld w w
same w = record { labels = refl; marks = refl }

then : {w v u : Work} → SameHeld w v → SameHeld v u → SameHeld w u
then a b = record { labels = b.labels ∙ a.labels; marks = b.marks ∙ a.marks }

offered_held : (d : Direction) (row target s m : ℕ) (g : Leg) (w : Work) → SameHeld w (offered d row target s m g w)
unfolding offered applied
offered_held d row target s m g w =
    cond_elim (SameHeld w) (ahead d m target) (applied d row s m g w) w
    (λ e. record { labels = refl; marks = refl }) (λ e. same w)

module _ (d : Direction) (n : Net) (k target : ℕ) where
  paths_held : (c : LegType) (s : ℕ) (fs : List Foot) (w : Work) → SameHeld w (paths_work d n k target c s fs w)
  unfolding paths_work foot_work
  paths_held c s [] w = same w
  paths_held c s (f ∷ fs) w = then (offered_held d _ target _ _ _ w) (paths_held c s fs (foot_work d n k target c s f w))

  pub stop_held : (walking : Bool) (s : ℕ) (w : Work) → SameHeld w (stop_work d n k target walking s w)
  unfolding stop_work
  stop_held true s w = then (paths_held Transfer s (n.transfers s) w) (paths_held Walk s (n.walks s) _)
  stop_held false s w = paths_held Transfer s (n.transfers s) w

  -- so that a stop's label can be read once
  pub paths_turn : (c : LegType) (s : ℕ) (fs : List Foot) (w : Work)
      → paths_work d n k target c s fs w ≡ in_turn (foot_from d n.stops k target c s (get_or w.held s 0)) fs w
  unfolding paths_work in_turn foot_work foot_from
  paths_turn c s [] w = refl
  paths_turn c s (f ∷ fs) w =
      let v = foot_work d n k target c s f w in
      paths_turn c s fs v
      ∙ ap (λ (l : List ℕ). in_turn (foot_from d n.stops k target c s (get_or l s 0)) fs v)
      (offered_held d _ target _ _ _ w).labels

  pub stops_turn : (walking : Bool) (ss : List ℕ) (w : Work)
      → stops_work d n k target walking ss w ≡ in_turn (stop_work d n k target walking) ss w
  unfolding stops_work in_turn
  stops_turn walking [] w = refl
  stops_turn walking (s ∷ ss) w = stops_turn walking ss (stop_work d n k target walking s w)

  -- the held label of stop s after its transfers
  pub label_held : (c : LegType) (s : ℕ) (fs : List Foot) (w : Work) → (paths_work d n k target c s fs w).held ≡ w.held
  label_held c s fs w = (paths_held c s fs w).labels
