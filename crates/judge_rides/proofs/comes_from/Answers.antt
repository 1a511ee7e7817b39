-- `comes_from`: the positions that are left decide.
use Rattle.std.proofs.Common.{rules}
use Rattle.handheld.proofs.Any.{number_next, number_found, number_none}
use Rattle.judge_rides.proofs.Riding.{comes_start}
use Rattle.judge_rides.proofs.comes_from.Goals as goal

pub loop-a-init : goal.loop-a-init
loop-a-init c = search (rules, comes_start)

pub returns-then-comes_at : goal.returns-then-comes_at
returns-then-comes_at c = search (rules, number_found)

pub loop-a-preserved : goal.loop-a-preserved
loop-a-preserved c = search (rules, number_next)

pub returns : goal.returns
returns c = search (rules, number_none)
