-- `checktables::feed_all`: the value of the line's open token stays in its bound.
use Rattle.std.proofs.Common.{IfSome, ◌≤◌}
use Rattle.checktables.proofs.feed_all.Given as goal

abbrev pub invariant-loop-b : goal.invariant-loop-b
invariant-loop-b l = IfSome l.line.token (λ v. v ≤ 4294967296)
