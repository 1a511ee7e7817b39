-- `explore_transfers`: the stops from `at` on whose mark is held are left, and footpaths do not change which these are.
use mathlib.Core.Path.{◌∙◌}
use borrow.Author.Rules.{rules}
use Rattle.allocator.proofs.Becoming.{same_self, same_then}
use Rattle.explorer.proofs.Turns.{mark_end}
use Rattle.explorer.proofs.Marked.{held_long, visit_less, visit_fits, visit_past}
use Rattle.explorer_footpaths.proofs.Stops.{leaving, leaving_same, foot_start, foot_next, footing_held}
use Rattle.explorer_footpaths.proofs.explore_transfers.Goals as goal

pub loop-s-init : goal.loop-s-init
loop-s-init c = (search (rules, foot_start), search rules, same_self)

pub overflow_cast-s : goal.overflow_cast-s
overflow_cast-s c = record { fits = search (rules, visit_fits, held_long, c.loop-s.workspace.usable.sized) }

pub explore_stop-requires : goal.explore_stop-requires
explore_stop-requires c = record { leaving = leaving_same c.loop-s.invariant.2 (search (rules, leaving)) }

pub overflow_add-at : goal.overflow_add-at
overflow_add-at c = record { fits = search (rules, visit_past, held_long, c.loop-s.workspace.usable.sized) }

pub loop-s-smaller : goal.loop-s-smaller
loop-s-smaller c =
    let w = c.loop-s.workspace in
    let long = held_long w.stops w.routes w.marks.now ∙ c.loop-s.invariant.2.stops_same in
    search (rules, visit_less, long)

pub loop-s-preserved : goal.loop-s-preserved
loop-s-preserved c =
    let step = c.explore_stop.ensures in
    (search (rules, foot_next), search (rules, footing_held), same_then c.loop-s.invariant.2 step.same)

pub returns : goal.returns
returns c = record { holds = search (rules, mark_end); same = c.loop-s.invariant.2 }
