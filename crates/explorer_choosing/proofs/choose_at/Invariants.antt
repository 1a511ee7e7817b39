-- `choose_at`: the rows from j on are left, and choosing by them leads where choosing by all of them leads.
use Rattle.repository.specs.Sections.{call_route}
use Rattle.repository.specs.NetOf.{net_of}
use Rattle.repository.specs.Rows.{rest}
use Rattle.allocator.specs.Workspace.{state, SameSlices}
use Rattle.explorer.specs.Turns.{Turn}
use Rattle.explorer_choosing.specs.Chosen.{chosen_by, chosen_at}
use Rattle.explorer_choosing.proofs.choose_at.Given as goal

abbrev pub invariant-loop-j : goal.invariant-loop-j
invariant-loop-j l =
    Turn (chosen_by l.d (net_of l.tables) l.s) (chosen_at l.d (net_of l.tables) l.s (state l.initial.workspace)) (rest (call_route l.tables) l.j l.j-end)
    (state l.workspace)
    × SameSlices l.initial.workspace l.workspace
