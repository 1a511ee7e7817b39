-- `choose_routes`: the marked stops from `at` on are left, and choosing does not change which stops are marked.
use Prim.Native.Nat.{◌-◌}
use Rattle.repository.specs.NetOf.{net_of}
use Rattle.allocator.specs.Workspace.{state, mark, SameSlices}
use Rattle.allocator.specs.Marked.{after}
use Rattle.explorer.specs.Turns.{Turn}
use Rattle.explorer_choosing.specs.Chosen.{chosen_at, chosen_all}
use Rattle.explorer_choosing.proofs.choose_routes.Given as goal

abbrev pub invariant-loop-s : goal.invariant-loop-s
invariant-loop-s l =
    Turn (chosen_at l.d (net_of l.tables)) (chosen_all l.d (net_of l.tables) (state l.initial.workspace)) (after l.at (mark l.workspace)) (state l.workspace)
    × SameSlices l.initial.workspace l.workspace

abbrev pub decreases-loop-s : goal.decreases-loop-s
decreases-loop-s l = l.initial.workspace.stops - l.at
