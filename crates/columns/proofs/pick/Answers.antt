-- `columns::pick` meets its contract: what is kept are the wanted texts of the fields so far.
-- Assumes nothing.
use borrow.Author.Rules.{rules}
use Rattle.columns.proofs.Passing.{less_left}
use Rattle.columns.proofs.Gathering.{gathered_start, gathered_on, pick_wrong, pick_last, spans_more}
use Rattle.columns.proofs.pick.Goals as goal

pub loop-field-init : goal.loop-field-init
loop-field-init c = search (rules, gathered_start)

pub returns-then-e-field-clause-result_value : goal.returns-then-e-field-clause-result_value
returns-then-e-field-clause-result_value c = pick_last c.loop-field.invariant _ c.in_ok-field.ensures.result_value c.kept-p.ensures (search rules)

pub returns-then-e-field-clause-all_spanned : goal.returns-then-e-field-clause-all_spanned
returns-then-e-field-clause-all_spanned c = spans_more c.loop-field.invariant _ c.in_ok-field.ensures.result_value c.kept-p.ensures c.in_ok-field.ensures.within

pub loop-field-smaller : goal.loop-field-smaller
loop-field-smaller c = search (rules, less_left)

pub loop-field-preserved : goal.loop-field-preserved
loop-field-preserved c = gathered_on c.loop-field.invariant _ c.in_ok-field.ensures.result_value c.kept-p.ensures c.in_ok-field.ensures.within (search rules)

pub returns-in_err-field-clause-result_value : goal.returns-in_err-field-clause-result_value
returns-in_err-field-clause-result_value c = pick_wrong c.loop-field.invariant c.from_residual.ensures c.in_err-field.ensures.result_value
