-- `checktables::main`: the input is read part by part, to its end.
use Rattle.std.proofs.Common.{IfSome, ◌≤◌}
use Rattle.checktables.proofs.main.Given as goal

abbrev pub invariant-loop : goal.invariant-loop
invariant-loop l = IfSome l.line.token (λ v. v ≤ 4294967296)
