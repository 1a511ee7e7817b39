-- `gtfs_write_times::write_times` meets its contract: the first test that decides.
-- Assumes nothing.
use borrow.Author.Rules.{rules}
use Rattle.gtfs_write.proofs.Tests.{whole_rows_lem}
use Rattle.gtfs_write.proofs.Answers.{answer_no_rows, answer_fault, answer_short, answer_written, held_refused, held_as_before, held_text}
use Rattle.gtfs_write_times.specs.WrittenTimes.{written_times}
use Rattle.gtfs_write_times.proofs.write_times.Goals as goal

pub returns-then-not-whole_rows-clause-value : goal.returns-then-not-whole_rows-clause-value
unfolding written_times
returns-then-not-whole_rows-clause-value c = search (rules, answer_no_rows)

pub returns-then-not-whole_rows-clause-out_after : goal.returns-then-not-whole_rows-clause-out_after
returns-then-not-whole_rows-clause-out_after c = search (rules, held_as_before)

pub times_fault-requires : goal.times_fault-requires
times_fault-requires c = search (rules, whole_rows_lem)

pub returns-in_err-times_fault-clause-value : goal.returns-in_err-times_fault-clause-value
unfolding written_times
returns-in_err-times_fault-clause-value c =
    answer_fault _ _ _ c.if-not-whole_rows.ensures _ c.in_err-times_fault.ensures c.from_residual.result c.from_residual.ensures

pub returns-in_err-times_fault-clause-out_after : goal.returns-in_err-times_fault-clause-out_after
returns-in_err-times_fault-clause-out_after c = held_refused _ _ c.from_residual.result c.from_residual.ensures.0

pub times_size-size-requires : goal.times_size-size-requires
times_size-size-requires c = search (rules, whole_rows_lem)

pub returns-then-out-size-clause-value : goal.returns-then-out-size-clause-value
unfolding written_times
returns-then-out-size-clause-value c = search (rules, answer_short)

pub returns-then-out-size-clause-out_after : goal.returns-then-out-size-clause-out_after
returns-then-out-size-clause-out_after c = search (rules, held_as_before)

pub put_times-requires-clause-whole : goal.put_times-requires-clause-whole
put_times-requires-clause-whole c = search (rules, whole_rows_lem)

pub returns-clause-value : goal.returns-clause-value
unfolding written_times
returns-clause-value c = search (rules, answer_written)

pub returns-clause-out_after : goal.returns-clause-out_after
returns-clause-out_after c = search (rules, held_text)
