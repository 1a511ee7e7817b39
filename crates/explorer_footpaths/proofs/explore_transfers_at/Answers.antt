-- `explore_transfers_at`: the rows from j on are left, and lead where all of them lead.
use Prim.Native.Nat.{ℕ, ◌≤◌}
use mathlib.Core.Path.{ap, ◌∙◌}
use native.Mathlib.Omega.{arith}
use borrow.Author.Rules.{rules}
use Rattle.model.specs.declared.LegType.TheVariants.{Transfer}
use Rattle.repository.specs.NetOf.{transfer_row}
use Rattle.repository.specs.Rows.{transfers, first_row}
use Rattle.repository.proofs.Lists.{transfers_are}
use Rattle.allocator.specs.Workspace.{state}
use Rattle.allocator.proofs.Becoming.{same_self, same_then}
use Rattle.explorer.proofs.Turns.{row_next, row_end}
use Rattle.explorer_footpaths.specs.Footing.{foot_by}
use Rattle.explorer_footpaths.proofs.Paths.{path_start, row_here}
use Rattle.explorer_footpaths.proofs.Stops.{leaving_same}
use Rattle.explorer_footpaths.proofs.explore_transfers_at.Goals as goal

pub loop-j-init : goal.loop-j-init
loop-j-init c = (search (rules, path_start, transfers_are), same_self)

pub explore_transfer-requires : goal.explore_transfer-requires
explore_transfer-requires c =
    let from : first_row transfers c.args.tables.now c.args.from.stop ≤ c.loop-j.j = omega arith in
    record { leaving = leaving_same c.loop-j.invariant.1 c.requires.leaving; of_stop = search (rules, row_here) }

pub loop-j-preserved : goal.loop-j-preserved
loop-j-preserved c =
    let a = c.args in
    let step = c.explore_transfer.ensures in
    let row = transfer_row a.tables.now c.loop-j.j in
    let now = state c.loop-j.workspace in
    let e = step.holds ∙ ap (λ (s : ℕ). foot_by s a.round Transfer a.from row now) c.loop-j.invariant.1.stops_same in
    (search (rules, row_next, e), same_then c.loop-j.invariant.1 step.same)

pub returns : goal.returns
returns c = record { holds = search (rules, row_end); same = c.loop-j.invariant.1 }
