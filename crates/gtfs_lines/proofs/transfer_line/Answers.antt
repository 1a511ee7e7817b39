-- `gtfs_lines::transfer_line` meets its contract: by the first value that is none.
-- Assumes nothing.
use Rattle.std.specs.Prelude.{None, Some}
use Rattle.csv_text.specs.There.{if_there}
use Rattle.columns.specs.Picks.{picked_in}
use Rattle.feed.specs.Spans.{transfer_at}
use Rattle.gtfs_lines.specs.Values.{transfer_read, transfer_in}
use Rattle.gtfs_lines.proofs.Transfers.{transfer_is}
use Rattle.gtfs_lines.proofs.transfer_line.Goals as goal

pub returns-in_err-p-clause-result_value : goal.returns-in_err-p-clause-result_value
unfolding transfer_read transfer_at picked_in transfer_in if_there
returns-in_err-p-clause-result_value c = rw (c.from_residual.ensures, transfer_is c.args.bytes.now c.args.c _ None c.in_err-p.ensures.result_value)

pub returns-in_err-kind-clause-result_value : goal.returns-in_err-kind-clause-result_value
unfolding transfer_read transfer_at picked_in transfer_in if_there
returns-in_err-kind-clause-result_value c = rw (c.from_residual-in_err-kind.ensures, transfer_is c.args.bytes.now c.args.c _ (Some c.in_ok-p.p) c.in_ok-p.ensures.result_value, ← c.in_err-kind.ensures)

pub returns-in_err-span-clause-result_value : goal.returns-in_err-span-clause-result_value
unfolding transfer_read transfer_at picked_in transfer_in if_there
returns-in_err-span-clause-result_value c = rw (c.from_residual-in_err-span.ensures, transfer_is c.args.bytes.now c.args.c _ (Some c.in_ok-p.p) c.in_ok-p.ensures.result_value, ← c.in_ok-kind.ensures, ← c.in_err-span.ensures)

pub returns-clause-result_value : goal.returns-clause-result_value
unfolding transfer_read transfer_at picked_in transfer_in if_there
returns-clause-result_value c = rw (transfer_is c.args.bytes.now c.args.c _ (Some c.in_ok-p.p) c.in_ok-p.ensures.result_value, ← c.in_ok-kind.ensures, ← c.in_ok-span.ensures)
