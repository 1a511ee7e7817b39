-- `judge`: refused by the tables, or judged.
use Rattle.std.proofs.Common.{ap}
use Rattle.model.specs.Refusal.{number_given}
use Rattle.check_tables.proofs.Whole.{zero_accepted}
use Rattle.judge.proofs.Steps.{not_err, by_tables}
use Rattle.judge.proofs.judge.Goals as goal

pub returns-in-Err : goal.returns-in-Err
returns-in-Err c = rw c.told_refused.ensures (by_tables _ _ _ c.check.ensures c.in-Err.is)

pub judge_checked-requires : goal.judge_checked-requires
judge_checked-requires c = zero_accepted _ c.check.ensures (ap number_given (not_err _ c.in_default.not-Err).1)
