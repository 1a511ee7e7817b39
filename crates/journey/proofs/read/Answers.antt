-- `journey::read` meets its contract: the legs that are passed and what is left say what all the bytes are.
-- Assumes nothing.
use Rattle.std.proofs.Common.{rules, arith}
use Rattle.std.proofs.lemmas.Result.{err_from_is_err_and}
use Rattle.journey.proofs.Told.{next_fits, next_less}
use Rattle.journey.proofs.Count.{passed_none, passed_on, passed_bad, passed_all}
use Rattle.journey.proofs.read.Goals as goal

pub loop-leg-init : goal.loop-leg-init
loop-leg-init c = passed_none _

pub returns-in_err-leg : goal.returns-in_err-leg
returns-in_err-leg c =
    let p = err_from_is_err_and c.from_residual.result c.from_residual.ensures.1 in
    rw (p.1, p.2) (search (rules, passed_bad, c.in_err-leg.was))

pub overflow_add-at : goal.overflow_add-at
overflow_add-at c = omega (arith, next_fits _ _ c.read_leg.ensures c.in-Some.is c.in_ok-leg.was c.leg_size.ensures)

pub loop-leg-smaller : goal.loop-leg-smaller
loop-leg-smaller c = search (rules, next_less)

pub loop-leg-preserved : goal.loop-leg-preserved
loop-leg-preserved c = search (rules, passed_on, c.in_ok-leg.was)

pub returns : goal.returns
returns c = search (rules, passed_all)
