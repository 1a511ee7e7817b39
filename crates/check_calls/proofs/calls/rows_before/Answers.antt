-- `rows_before`: the rows before `lo` name earlier routes, and `hi` does not.
use borrow.Author.Rules.{rules}
use Rattle.base.proofs.Halving.{bracket_none, bracket_up, bracket_down, mid_low, mid_high}
use Rattle.check_calls.proofs.Halved.{route_before, route_reached, bracket_shut}
use Rattle.check_calls.proofs.calls.rows_before.Goals as goal

pub loop-lo-init : goal.loop-lo-init
loop-lo-init c = search (rules, bracket_none)

pub loop-lo-preserved-then-q-r : goal.loop-lo-preserved-then-q-r
loop-lo-preserved-then-q-r c = search (rules, bracket_up, mid_high, route_before)

pub loop-lo-preserved : goal.loop-lo-preserved
loop-lo-preserved c = search (rules, bracket_down, mid_low, mid_high, route_reached)

pub returns : goal.returns
returns c = search (rules, bracket_shut)
