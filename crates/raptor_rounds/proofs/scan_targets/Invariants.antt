-- `raptor_rounds::scan_targets` meets its contract: the goals in list order, by `Scanned`.
use Rattle.allocator.specs.Workspace.{best}
use Rattle.raptor_rounds.proofs.Targets.{Scanned}
use Rattle.raptor_rounds.proofs.scan_targets.Given as goal

abbrev pub invariant-loop-s : goal.invariant-loop-s
invariant-loop-s l = Scanned l.d l.k (best l.workspace) l.goals l.initial.seen l.seen l.s-index
