-- `explore_transfers_at`: the rows from j on are left, and lead where all of them lead.
use Rattle.model.specs.declared.LegType.TheVariants.{Transfer}
use Rattle.repository.specs.NetOf.{transfer_row, net_of}
use Rattle.repository.specs.Rows.{rest}
use Rattle.allocator.specs.Workspace.{state, SameSlices}
use Rattle.explorer.specs.Turns.{in_turn, Turn}
use Rattle.explorer_footpaths.specs.Footing.{foot_by}
use Rattle.explorer_footpaths.proofs.explore_transfers_at.Given as goal

abbrev pub invariant-loop-j : goal.invariant-loop-j
invariant-loop-j l =
    Turn (foot_by l.initial.workspace.stops l.round Transfer l.from)
    (in_turn (foot_by l.initial.workspace.stops l.round Transfer l.from) ((net_of l.tables).transfers l.from.stop) (state l.initial.workspace))
    (rest (transfer_row l.tables) l.j l.j-end) (state l.workspace)
    × SameSlices l.initial.workspace l.workspace
