-- The operations make up the search of `model`: how it begins, and how it ends. What is between, `explorer` says.
-- Assumes nothing.
use mathlib.Core.Path.{◌≡◌, refl}
use mathlib.Core.List.{List, [], ◌∷◌}
use Prim.Native.Nat.{ℕ}
use lib.ListN.{replicate}
use Rattle.model.specs.declared.Direction.{Direction}
use Rattle.model.specs.declared.Direction.TheVariants.{Departure, Arrival}
use Rattle.model.specs.Tables.{Net}
use Rattle.model.specs.State.{Task, Labels, State}
use Rattle.model.specs.Work.{Work, work_of}
use Rattle.model.specs.Choosing.{fresh}
use Rattle.model.specs.Search.{starting, begun, ended}
use Rattle.allocator.specs.Parts.{with_prev, with_curr, with_marks}
use Rattle.allocator.specs.Operations.{blank, cleared, started, swapped}
use Rattle.allocator.specs.Repeated.{started_all}

-- ---- the beginning
pub fresh_is : (d : Direction) (n : Net) → fresh d n ≡ replicate n.routes (blank d)
unfolding fresh blank
fresh_is Departure n = refl
fresh_is Arrival n = refl

module _ (n : Net) (q : Task) where
  -- the state with other labels
  labelled : Labels → Work → Work
  labelled l w = record {
    prev = w.prev;
    labels = l;
    held = w.held;
    held_mark = w.held_mark;
    active = w.active;
    mask = w.mask;
    parents = w.parents;
  }

  starting_is : (ss : List ℕ) (w : Work) → labelled (starting n q ss w.labels) w ≡ started_all q.moment ss w
  unfolding labelled starting started_all started with_marks with_curr
  starting_is [] w = refl
  starting_is (s ∷ ss) w = starting_is ss (started s q.moment w)

  pub begun_is : work_of (begun n q) ≡ started_all q.moment q.starts (cleared n.stops n.routes q.direction)
  unfolding begun cleared labelled
  begun_is = rw (fresh_is q.direction n) (starting_is q.starts (cleared n.stops n.routes q.direction))

-- ---- the end
module _ (n : Net) (q : Task) (s : State) where
  -- "stop if nothing is marked": the labels are swapped by then
  pub ended_is : swapped n.stops (work_of s) ≡ work_of (ended n q s)
  unfolding ended swapped with_curr with_prev
  ended_is = refl
