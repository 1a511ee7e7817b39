-- `choose_routes`: the marked stops from `at` on are left, and choosing does not change which stops are marked.
use mathlib.Core.Path.{◌∙◌}
use borrow.Author.Rules.{rules}
use Rattle.allocator.proofs.Becoming.{same_self, same_then}
use Rattle.explorer.proofs.Fixed.{fixed_same}
use Rattle.explorer.proofs.Turns.{mark_end}
use Rattle.explorer.proofs.Marked.{mark_long, visit_below, visit_less, visit_fits, visit_past}
use Rattle.explorer_choosing.proofs.Choosing.{stop_start, stop_next}
use Rattle.explorer_choosing.proofs.choose_routes.Goals as goal

pub loop-s-init : goal.loop-s-init
loop-s-init c = (search (rules, stop_start), same_self)

pub overflow_cast-s : goal.overflow_cast-s
overflow_cast-s c = record { fits = search (rules, visit_fits, mark_long, c.loop-s.workspace.usable.sized) }

pub choose_at-requires : goal.choose_at-requires
choose_at-requires c = record {
  fixed = fixed_same c.loop-s.invariant.1 c.requires.fixed;
  s_lt_stops = search (rules, visit_below, mark_long);
}

pub overflow_add-at : goal.overflow_add-at
overflow_add-at c = record { fits = search (rules, visit_past, mark_long, c.loop-s.workspace.usable.sized) }

pub loop-s-smaller : goal.loop-s-smaller
loop-s-smaller c =
    let w = c.loop-s.workspace in
    let long = mark_long w.stops w.routes w.marks.now ∙ c.loop-s.invariant.1.stops_same in
    search (rules, visit_less, long)

pub loop-s-preserved : goal.loop-s-preserved
loop-s-preserved c = (search (rules, stop_next), same_then c.loop-s.invariant.1 c.choose_at.ensures.same)

pub returns : goal.returns
returns c = record { holds = search (rules, mark_end); same = c.loop-s.invariant.1 }
