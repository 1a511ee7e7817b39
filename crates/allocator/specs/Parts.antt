-- The state with one of its parts replaced.
use Rattle.std.specs.Prelude.{Bool, List, ℕ}
use Rattle.std.specs.Prelude.{Option}
use Rattle.model.specs.declared.Leg.{Leg}
use Rattle.model.specs.Work.{Work}

unfoldable pub with_prev : List ℕ → Work → Work
with_prev x w = record {
  prev = x;
  labels = w.labels;
  held = w.held;
  held_mark = w.held_mark;
  active = w.active;
  mask = w.mask;
  parents = w.parents;
}

unfoldable pub with_curr : List ℕ → Work → Work
with_curr x w = record {
  prev = w.prev;
  labels = record { curr = x; best = w.labels.best; mark = w.labels.mark };
  held = w.held;
  held_mark = w.held_mark;
  active = w.active;
  mask = w.mask;
  parents = w.parents;
}

unfoldable pub with_best : List ℕ → Work → Work
with_best x w = record {
  prev = w.prev;
  labels = record { curr = w.labels.curr; best = x; mark = w.labels.mark };
  held = w.held;
  held_mark = w.held_mark;
  active = w.active;
  mask = w.mask;
  parents = w.parents;
}

unfoldable pub with_marks : List Bool → Work → Work
with_marks x w = record {
  prev = w.prev;
  labels = record { curr = w.labels.curr; best = w.labels.best; mark = x };
  held = w.held;
  held_mark = w.held_mark;
  active = w.active;
  mask = w.mask;
  parents = w.parents;
}

unfoldable pub with_held : List ℕ → Work → Work
with_held x w = record {
  prev = w.prev;
  labels = w.labels;
  held = x;
  held_mark = w.held_mark;
  active = w.active;
  mask = w.mask;
  parents = w.parents;
}

unfoldable pub with_held_mark : List Bool → Work → Work
with_held_mark x w = record {
  prev = w.prev;
  labels = w.labels;
  held = w.held;
  held_mark = x;
  active = w.active;
  mask = w.mask;
  parents = w.parents;
}

unfoldable pub with_active : List ℕ → Work → Work
with_active x w = record {
  prev = w.prev;
  labels = w.labels;
  held = w.held;
  held_mark = w.held_mark;
  active = x;
  mask = w.mask;
  parents = w.parents;
}

unfoldable pub with_mask : List Bool → Work → Work
with_mask x w = record {
  prev = w.prev;
  labels = w.labels;
  held = w.held;
  held_mark = w.held_mark;
  active = w.active;
  mask = x;
  parents = w.parents;
}

unfoldable pub with_parents : List (Option Leg) → Work → Work
with_parents x w = record {
  prev = w.prev;
  labels = w.labels;
  held = w.held;
  held_mark = w.held_mark;
  active = w.active;
  mask = w.mask;
  parents = x;
}
