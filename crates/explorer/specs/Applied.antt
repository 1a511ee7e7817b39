-- One proposal applied to the workspace, and a workspace with other labels and parents.
use Rattle.std.specs.Prelude.{List}
use Rattle.std.specs.Prelude.{Option}
use Rattle.model.specs.declared.Leg.{Leg}
use Rattle.model.specs.State.{Task, Labels}
use Rattle.model.specs.Tables.{Net}
use Rattle.model.specs.Round.{opened}
use Rattle.model.specs.Work.{Work, work_of, state_of}

abbrev pub with : Work → Labels → List (Option Leg) → Work
with w l ps =
    record { prev = w.prev; labels = l; held = w.held; held_mark = w.held_mark; active = w.active; mask = w.mask; parents = ps }

-- the labels swapped, the routes chosen, the marks cleared: the model's `opened`, which does not read the target
unfoldable pub opened_work : Net → Task → Work → Work
unfolding opened
opened_work n q w =
    work_of (record { times = opened n q (state_of w (record { stop = 0; round = 0; time = record { 0 = 0 } })).times; parents = w.parents })
