-- `gtfs_write_times::times_size` meets its contract: what is measured and what is left are the whole text.
-- Assumes nothing.
use borrow.Author.Rules.{rules}
use Rattle.gtfs_write_times.proofs.Texts.{sizing_start, sizing_next, sizing_end}
use Rattle.gtfs_write_times.proofs.times_size.Goals as goal

pub loop-trip-init : goal.loop-trip-init
loop-trip-init c = search (rules, sizing_start)

pub loop-trip-preserved : goal.loop-trip-preserved
loop-trip-preserved c = sizing_next c.loop-trip.invariant c.as_chunks.ensures.front c.loop-trip-test.true c.position_after-position.ensures c.time_size-size.ensures

pub returns : goal.returns
returns c = sizing_end c.loop-trip.invariant c.as_chunks.ensures.front c.loop-trip-test.false
