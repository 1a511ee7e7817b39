-- What each operation does to the state, in document 01's words.
use Rattle.std.specs.Prelude.{true, false, cond, ℕ, ◌+◌, ◌*◌, set, replicate}
use Rattle.std.specs.Prelude.{None, Some}
use Rattle.model.specs.declared.Direction.{Direction}
use Rattle.model.specs.declared.Direction.TheVariants.{Departure, Arrival}
use Rattle.model.specs.declared.Leg.{Leg}
use Rattle.model.specs.declared.Mode.{Mode}
use Rattle.model.specs.declared.Mode.TheVariants.{Source, Rescan}
use Rattle.model.specs.Limits.{MOST_ROUNDS}
use Rattle.model.specs.Moments.{MAX}
use Rattle.model.specs.Work.{Work}
use Rattle.model.specs.Applying.{wins, apply1}
use Rattle.model.specs.Choosing.{Chosen, choose1}
use Rattle.allocator.specs.Parts.{with_prev, with_curr, with_best, with_marks, with_held, with_held_mark, with_active, with_mask, with_parents}

-- ---- at the start of a query
-- how a route's mark is filled: "all ones, or 0"
unfoldable pub blank : Direction → ℕ
blank Departure = MAX
blank Arrival = 0

-- "Every search clears the workspace first, as with a new `Allocator`."
unfoldable pub cleared : ℕ → ℕ → Direction → Work
cleared stops routes d = record {
  prev = replicate stops 0;
  labels = record { curr = replicate stops 0; best = replicate stops 0; mark = replicate stops false };
  held = replicate stops 0;
  held_mark = replicate stops false;
  active = replicate routes (blank d);
  mask = replicate routes false;
  parents = replicate (MOST_ROUNDS * stops) None;
}

-- "the start stops get the query moment as current label and a mark. Their best moment stays absent."
unfoldable pub started : ℕ → ℕ → Work → Work
started i t w = with_marks (set w.labels.mark i true) (with_curr (set w.labels.curr i t) w)

-- ---- at the start of a round
-- "swap labels and clear the current ones"
unfoldable pub swapped : ℕ → Work → Work
swapped stops w = with_curr (replicate stops 0) (with_prev w.labels.curr w)

-- no route is chosen yet
unfoldable pub unmasked : ℕ → Work → Work
unmasked routes w = with_mask (replicate routes false) w

-- "In the source's mode the marks .. are filled once per query"; in rescan mode they "are refilled before every round"
unfoldable pub refreshed : Mode → ℕ → Direction → Work → Work
refreshed Source routes d w = w
refreshed Rescan routes d w = with_active (replicate routes (blank d)) w

-- each route's mark, and which routes the round scans
unfoldable pub chosen_of : Work → Chosen
chosen_of w = record { active = w.active; mask = w.mask }

unfoldable pub with_chosen : Chosen → Work → Work
with_chosen c w = with_mask c.mask (with_active c.active w)

-- a marked stop stands at position p of route r: "it replaces the route's mark if smaller; arrival search: if larger"
unfoldable pub activated : Direction → ℕ → ℕ → Work → Work
activated d r p w = with_chosen (choose1 d r p (chosen_of w)) w

-- "clear marks"
unfoldable pub unmarked : ℕ → Work → Work
unmarked stops w = with_marks (replicate stops false) w

-- ---- within a round
-- the labels and marks as the rides left them are held for the footpaths
unfoldable pub holding : Work → Work
holding w = with_held_mark w.labels.mark (with_held w.labels.curr w)

-- stop i is reached at moment t by the leg g, in the round whose parents begin at `row`
unfoldable pub stored : ℕ → ℕ → ℕ → Leg → Work → Work
stored row i t g w =
    with_parents (set w.parents (row + i) (Some g))
    (with_marks (set w.labels.mark i true)
    (with_best (set w.labels.best i t) (with_curr (set w.labels.curr i t) w)))

-- the same if it wins: one step of the model's `apply_all` and `keep_all`. "Applying is strict: a tie keeps the parent."
unfoldable pub applied : Direction → ℕ → ℕ → ℕ → Leg → Work → Work
applied d row i t g w = record {
  prev = w.prev;
  labels = apply1 d i t w.labels;
  held = w.held;
  held_mark = w.held_mark;
  active = w.active;
  mask = w.mask;
  parents = cond (wins d i t w.labels) (set w.parents (row + i) (Some g)) w.parents;
}
