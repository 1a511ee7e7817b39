-- `gtfs_lines::row` meets its contract: the form is tested of what is picked.
-- Assumes nothing.
use Rattle.gtfs_lines.proofs.Forms.{form_right, form_two, form_one, form_count, form_none}
use Rattle.gtfs_lines.proofs.row.Goals as goal
use Rattle.gtfs_lines.proofs.row.Goals.{else-p-count-via-then-p-count+then-first+else-second, else-p-count-via-then-p-count+else-first, else-p-count-via-else-p-count}

pub returns-in_err-p-clause-result_value : goal.returns-in_err-p-clause-result_value
returns-in_err-p-clause-result_value c = form_none _ _ c.from_residual.ensures c.in_err-p.ensures.result_value

pub returns-then-second-clause-result_value : goal.returns-then-second-clause-result_value
returns-then-second-clause-result_value c = form_right _ _ _ c.in_ok-p.ensures.all_spanned c.in_ok-p.ensures.result_value c.if-p-count.true c.if-first.true c.if-second.true

pub returns-else-p-count-clause-result_value : goal.returns-else-p-count-clause-result_value
returns-else-p-count-clause-result_value c =
    elim c.else-p-count.branch [
      | else-p-count-via-then-p-count+then-first+else-second w ↦ form_two _ _ _ c.in_ok-p.ensures.all_spanned c.in_ok-p.ensures.result_value w.if-p-count.true w.if-first.true w.if-second.false
      | else-p-count-via-then-p-count+else-first w ↦ form_one _ _ _ c.in_ok-p.ensures.all_spanned c.in_ok-p.ensures.result_value w.if-p-count.true w.if-first.false
      | else-p-count-via-else-p-count w ↦ form_count _ _ _ c.in_ok-p.ensures.all_spanned c.in_ok-p.ensures.result_value w.if-p-count.false
    ]
