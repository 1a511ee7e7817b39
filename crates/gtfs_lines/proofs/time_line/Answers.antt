-- `gtfs_lines::time_line` meets its contract: by the first value that is none.
-- Assumes nothing.
use Rattle.std.specs.Prelude.{None, Some}
use Rattle.csv_text.specs.There.{if_there}
use Rattle.csv_text.specs.Part.{part}
use Rattle.columns.specs.Picks.{picked_in, text_at}
use Rattle.feed.specs.Spans.{time_at}
use Rattle.gtfs_lines.specs.Values.{time_read, time_in}
use Rattle.gtfs_lines.proofs.Times.{time_is}
use Rattle.gtfs_lines.proofs.time_line.Goals as goal

pub returns-in_err-p-clause-result_value : goal.returns-in_err-p-clause-result_value
unfolding time_read time_at picked_in time_in text_at if_there part
returns-in_err-p-clause-result_value c = rw (c.from_residual.ensures, time_is c.args.bytes.now c.args.c _ None c.in_err-p.ensures.result_value)

pub returns-in_err-clock-clause-result_value : goal.returns-in_err-clock-clause-result_value
unfolding time_read time_at picked_in time_in text_at if_there part
returns-in_err-clock-clause-result_value c = rw (c.from_residual-in_err-clock.ensures, time_is c.args.bytes.now c.args.c _ (Some c.in_ok-p.p) c.in_ok-p.ensures.result_value, ← c.in_err-clock.ensures)

pub returns-in_err-clock-2-clause-result_value : goal.returns-in_err-clock-2-clause-result_value
unfolding time_read time_at picked_in time_in text_at if_there part
returns-in_err-clock-2-clause-result_value c = rw (c.from_residual-in_err-clock-2.ensures, time_is c.args.bytes.now c.args.c _ (Some c.in_ok-p.p) c.in_ok-p.ensures.result_value, ← c.in_ok-clock.ensures, ← c.in_err-clock-2.ensures)

pub returns-in_err-decimal-clause-result_value : goal.returns-in_err-decimal-clause-result_value
unfolding time_read time_at picked_in time_in text_at if_there part
returns-in_err-decimal-clause-result_value c = rw (c.from_residual-in_err-decimal.ensures, time_is c.args.bytes.now c.args.c _ (Some c.in_ok-p.p) c.in_ok-p.ensures.result_value, ← c.in_ok-clock.ensures, ← c.in_ok-clock-2.ensures, ← c.in_err-decimal.ensures)

pub returns-clause-result_value : goal.returns-clause-result_value
unfolding time_read time_at picked_in time_in text_at if_there part
returns-clause-result_value c = rw (time_is c.args.bytes.now c.args.c _ (Some c.in_ok-p.p) c.in_ok-p.ensures.result_value, ← c.in_ok-clock.ensures, ← c.in_ok-clock-2.ensures, ← c.in_ok-decimal.ensures)
