-- `shape_ok`: a part that passed lets the next be read.
use borrow.Author.Rules.{rules}
use mathlib.Core.Path.{sym, ◌∙◌}
use mathlib.Core.Bool.{true≢false}
use Rattle.check_shape.proofs.Shown.{headed_known, sized_known}
use Rattle.check_shape.proofs.shape_ok.Goals as goal
use Rattle.check_shape.proofs.shape_ok.Goals.{then-sizes_ok, else-sizes_ok}

pub sizes_ok-requires : goal.sizes_ok-requires
sizes_ok-requires c = search (rules, headed_known)

pub limits_ok-requires : goal.limits_ok-requires
limits_ok-requires c = search (rules, headed_known)

pub all_starts_ok-requires-clause-headed : goal.all_starts_ok-requires-clause-headed
all_starts_ok-requires-clause-headed c = search (rules, headed_known)

pub all_starts_ok-requires-clause-roomy : goal.all_starts_ok-requires-clause-roomy
all_starts_ok-requires-clause-roomy c =
    elim c.if-sizes_ok.branch [
      | then-sizes_ok w ↦ sized_known _ c.sizes_ok.ensures w.if-sizes_ok.true
      | else-sizes_ok w ↦ absurd (true≢false (sym c.if-limits_ok.true ∙ w.value-is ∙ w.if-sizes_ok.false))
    ]

pub positions_ok-requires : goal.positions_ok-requires
positions_ok-requires c = search (rules, headed_known)
