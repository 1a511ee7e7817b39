-- `explore_walks_at`: the rows from j on are left, and lead where all of them lead.
use Rattle.model.specs.declared.LegType.TheVariants.{Walk}
use Rattle.repository.specs.NetOf.{walk_row, net_of}
use Rattle.repository.specs.Rows.{rest}
use Rattle.allocator.specs.Workspace.{state, SameSlices}
use Rattle.explorer.specs.Turns.{in_turn, Turn}
use Rattle.explorer_footpaths.specs.Footing.{foot_by}
use Rattle.explorer_footpaths.proofs.explore_walks_at.Given as goal

abbrev pub invariant-loop-j : goal.invariant-loop-j
invariant-loop-j l =
    Turn (foot_by l.initial.workspace.stops l.round Walk l.from)
    (in_turn (foot_by l.initial.workspace.stops l.round Walk l.from) ((net_of l.tables).walks l.from.stop) (state l.initial.workspace))
    (rest (walk_row l.tables) l.j l.j-end) (state l.workspace)
    × SameSlices l.initial.workspace l.workspace
