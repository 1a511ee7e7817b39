-- What the program's sums need of the labels that are held, the model promises: they are those that a round's rides left.
use Prim.Native.Nat.{ℕ, ◌+◌, ◌*◌, ◌≤◌}
use Rattle.std.specs.Prelude.{Option}
use mathlib.Core.List.{List}
use lib.ListN.{length}
use Rattle.model.specs.declared.Leg.{Leg}
use Rattle.model.specs.State.{Task, Times}
use Rattle.model.specs.Tables.{Net}
use Rattle.model.specs.Round.{Order, Fair, ridden}
use Rattle.model.specs.Sound.{Sound}
use Rattle.model.specs.Work.{work_of}
use Rattle.model.proofs.Choosing.{RouteMarks}
use Rattle.model.proofs.Orders.{Whole}
use Rattle.model.proofs.Round.{marked, ridden_bound}
use Rattle.allocator.specs.Parts.{with_held, with_held_mark}
use Rattle.allocator.specs.Operations.{holding}
use Rattle.explorer_footpaths.specs.Footing.{Footing}

pub ridden_footing : (n : Net) → Sound n → (q : Task) (o : Order) → Fair o → (k : ℕ) (t : Times) (w ps : List (Option Leg))
    → Whole n q t
    → k * n.stops + n.stops ≤ length w → RouteMarks q.direction n t.active
    → Footing n.stops (holding (work_of (record { times = ridden n q o k t; parents = ps })))
unfolding holding with_held with_held_mark
ridden_footing n ok q o fair k t w ps z y marks = record {
  most = ridden_bound n ok q o fair k t w z y marks;
  marked = marked n ok q o fair k t w z y marks;
}
