-- `raptor_rounds::start_all` meets its contract: every start stop labelled and marked, by `Starting`.
use Rattle.allocator.specs.Workspace.{state, SameSlices}
use Rattle.raptor_rounds.proofs.Starting.{Starting}
use Rattle.raptor_rounds.proofs.start_all.Given as goal

abbrev pub invariant-loop-s : goal.invariant-loop-s
invariant-loop-s l =
    Starting l.t.0 l.starts (state l.initial.workspace) (state l.workspace) l.s-index × SameSlices l.initial.workspace l.workspace
