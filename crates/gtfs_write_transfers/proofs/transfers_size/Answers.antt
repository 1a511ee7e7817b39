-- `gtfs_write_transfers::transfers_size` meets its contract: what is measured and what is left are the whole text.
-- Assumes nothing.
use borrow.Author.Rules.{rules}
use Rattle.gtfs_write_transfers.proofs.Texts.{sizing_start, sizing_next, sizing_end}
use Rattle.gtfs_write_transfers.proofs.transfers_size.Goals as goal

pub loop-from-init : goal.loop-from-init
loop-from-init c = search (rules, sizing_start)

pub loop-from-preserved : goal.loop-from-preserved
loop-from-preserved c = sizing_next c.loop-from.invariant c.as_chunks.ensures.front c.loop-from-test.true c.transfer_size-size.ensures

pub returns : goal.returns
returns c = sizing_end c.loop-from.invariant c.as_chunks.ensures.front c.loop-from-test.false
