-- `raptor_rounds::rounds` meets its contract: the rounds left come to what the whole search comes to, by `At`.
use Rattle.raptor_rounds.specs.Asked.{task_between}
use Rattle.raptor_rounds.proofs.Loop.{At}
use Rattle.raptor_rounds.proofs.rounds.Given as goal

abbrev pub invariant-loop-k : goal.invariant-loop-k
invariant-loop-k l = At l.tables (task_between l.a l.starts l.goals) l.initial.workspace l.k l.workspace l.aimed
