-- `arguments::bytes::value_in`: the value is that of the digits before i.
use borrow.Author.Rules.{rules}
use Rattle.arguments.proofs.Digits.{read_start, read_on, read_over, read_end}
use Rattle.arguments.proofs.bytes.value_in.Goals as goal

pub loop-i-init : goal.loop-i-init
loop-i-init c = search (rules, read_start)

pub returns-then-next-gt4294967295 : goal.returns-then-next-gt4294967295
returns-then-next-gt4294967295 c = search (rules, read_over)

pub loop-i-preserved : goal.loop-i-preserved
loop-i-preserved c = search (rules, read_on)

pub returns : goal.returns
returns c = search (rules, read_end)
