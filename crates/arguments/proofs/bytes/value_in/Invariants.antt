-- `arguments::bytes::value_in`: the value is that of the digits before i.
use Rattle.arguments.proofs.Digits.{Read}
use Rattle.arguments.proofs.bytes.value_in.Given as goal

abbrev pub invariant-loop-i : goal.invariant-loop-i
invariant-loop-i l = Read l.arg l.from l.to l.value l.i
