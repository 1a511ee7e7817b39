-- `explore_transfers`: the stops from `at` on whose mark is held are left, and footpaths do not change which these are.
use Prim.Native.Nat.{◌-◌}
use Rattle.repository.specs.NetOf.{net_of}
use Rattle.allocator.specs.Workspace.{state, held_mark, SameSlices}
use Rattle.allocator.specs.Marked.{after}
use Rattle.explorer.specs.Fused.{stop_work, feet_work}
use Rattle.explorer.specs.Turns.{Turn}
use Rattle.explorer_footpaths.specs.Footing.{Footing}
use Rattle.explorer_footpaths.proofs.explore_transfers.Given as goal

abbrev pub invariant-loop-s : goal.invariant-loop-s
invariant-loop-s l =
    Turn (stop_work l.round.direction (net_of l.tables) l.round.number l.round.target.0 l.round.walking)
    (feet_work l.round.direction (net_of l.tables) l.round.number l.round.target.0 l.round.walking (state l.initial.workspace))
    (after l.at (held_mark l.workspace)) (state l.workspace)
    × Footing l.initial.workspace.stops (state l.workspace)
    × SameSlices l.initial.workspace l.workspace

abbrev pub decreases-loop-s : goal.decreases-loop-s
decreases-loop-s l = l.initial.workspace.stops - l.at
