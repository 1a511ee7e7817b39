-- A round's beginning, step by step: what the labels swapped, the routes chosen and the marks cleared come to.
use Prim.Native.Nat.{ℕ}
use mathlib.Core.Path.{◌≡◌, refl, ◌∙◌}
use Rattle.model.specs.declared.Direction.{Direction}
use Rattle.model.specs.declared.Direction.TheVariants.{Departure, Arrival}
use Rattle.model.specs.declared.Mode.{Mode}
use Rattle.model.specs.declared.Mode.TheVariants.{Source, Rescan}
use Rattle.model.specs.State.{Task}
use Rattle.model.specs.Tables.{Net}
use Rattle.model.specs.Choosing.{fresh, refilled}
use Rattle.model.specs.Round.{picks, opened}
use Rattle.model.specs.Work.{Work}
use Rattle.allocator.specs.Parts.{with_prev, with_curr, with_marks, with_active, with_mask}
use Rattle.allocator.specs.Operations.{blank, swapped, unmasked, refreshed, chosen_of, with_chosen, unmarked}
use Rattle.explorer.specs.Applied.{opened_work}
use Rattle.explorer_choosing.specs.Chosen.{chosen_all, opened_by}

-- of the task only the mode and the direction are read
pub opened_by_lem : (n : Net) (q : Task) (w : Work) → opened_work n q w ≡ opened_by q.mode q.direction n w
unfolding opened_by opened_work opened picks
opened_by_lem n q w = refl

module _ (n : Net) where
  steps : (mode : Mode) (d : Direction) (w : Work)
      → unmarked n.stops (chosen_all d n (unmasked n.routes (refreshed mode n.routes d (swapped n.stops w))))
      ≡ opened_by mode d n w
  unfolding unmarked chosen_all unmasked refreshed swapped opened_by opened_work opened picks refilled fresh blank with_prev with_curr with_marks with_active with_mask with_chosen chosen_of
  steps Source d w = refl
  steps Rescan Departure w = refl
  steps Rescan Arrival w = refl

pub opened_steps : (n : Net) (mode : Mode) (d : Direction) (w : Work) {stops routes' stops'' : ℕ} {x y z : Work} → stops ≡ n.stops
    → routes' ≡ n.routes → stops'' ≡ n.stops → x ≡ swapped stops w
    → y ≡ chosen_all d n (unmasked routes' (refreshed mode routes' d x)) → z ≡ unmarked stops'' y → z ≡ opened_by mode d n w
opened_steps n mode d w e-stops e-routes e-stops'' ex ey ez = ez ∙ rw (ey, ex, e-stops, e-routes, e-stops'') (steps n mode d w)
