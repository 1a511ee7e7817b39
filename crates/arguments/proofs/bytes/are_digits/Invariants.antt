-- `arguments::bytes::are_digits`: the bytes up to i are digits, and the rest decides.
use Rattle.arguments.specs.Digits.{digit_at}
use Rattle.base.specs.All.{So}
use Rattle.arguments.proofs.bytes.are_digits.Given as goal

abbrev pub invariant-loop-i : goal.invariant-loop-i
invariant-loop-i l = So (digit_at l.arg) l.from l.to l.i
