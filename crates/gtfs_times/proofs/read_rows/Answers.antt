-- `gtfs_times::read_rows` meets its contract: the rows that stand and what is left say what all of them are.
-- Assumes nothing.
use borrow.Author.Rules.{rules}
use Rattle.gtfs_times.proofs.Going.{going_start, going_on, takeable, line_fits}
use Rattle.gtfs_times.proofs.Going.{form_told, form_left, plan_told, plan_left, full_told, full_left, done_told, done_left}
use Rattle.gtfs_times.proofs.read_rows.Goals as goal

pub loop-i-init : goal.loop-i-init
loop-i-init c = (search (rules, going_start), search rules, search rules, search rules)

pub told_bad-requires : goal.told_bad-requires
told_bad-requires c = search (rules, line_fits)

pub returns-in_default-clause-value : goal.returns-in_default-clause-value
returns-in_default-clause-value c = search (rules, form_told)

pub returns-in_default-clause-times_left : goal.returns-in_default-clause-times_left
returns-in_default-clause-times_left c = search (rules, form_left)

pub take-requires : goal.take-requires
take-requires c = search (rules, takeable)

pub told_bad-requires-in-Err-Bad : goal.told_bad-requires-in-Err-Bad
told_bad-requires-in-Err-Bad c = search (rules, line_fits)

pub returns-in-Err-Bad-clause-value : goal.returns-in-Err-Bad-clause-value
returns-in-Err-Bad-clause-value c = search (rules, plan_told)

pub returns-in-Err-Bad-clause-times_left : goal.returns-in-Err-Bad-clause-times_left
returns-in-Err-Bad-clause-times_left c = search (rules, plan_left)

pub returns-in-Err-Full-clause-value : goal.returns-in-Err-Full-clause-value
returns-in-Err-Full-clause-value c = search (rules, full_told)

pub returns-in-Err-Full-clause-times_left : goal.returns-in-Err-Full-clause-times_left
returns-in-Err-Full-clause-times_left c = search (rules, full_left)

pub loop-i-preserved : goal.loop-i-preserved
loop-i-preserved c = (search (rules, going_on), search rules, search rules, search rules)

pub returns-clause-value : goal.returns-clause-value
returns-clause-value c = search (rules, done_told)

pub returns-clause-times_left : goal.returns-clause-times_left
returns-clause-times_left c = search (rules, done_left)
