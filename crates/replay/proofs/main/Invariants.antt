-- `replay::main`: the value of the line's open token stays in its bound.
use Rattle.std.proofs.Common.{IfSome, ◌≤◌}
use Rattle.replay.proofs.main.Given as goal

abbrev pub invariant-loop : goal.invariant-loop
invariant-loop l = IfSome l.at.line.token (λ v. v ≤ 4294967296)
