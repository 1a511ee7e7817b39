-- `gtfs_write_times::put_times` meets its contract: what is written is the front of the text.
-- Assumes nothing.
use borrow.Author.Rules.{rules}
use Rattle.feed.specs.Columns.{trip_id, arrival_time, departure_time, stop_id, stop_sequence}
use Rattle.feed.specs.Writing.{line_with, times_header}
use Rattle.gtfs_write_times.proofs.Texts.{header_room, putting_start, putting_next, putting_end, putting_room, putting_arrival, putting_departure}
use Rattle.gtfs_write_times.proofs.put_times.Goals as goal

pub write_text-requires : goal.write_text-requires
write_text-requires c = search (rules, header_room)

pub loop-trip-init : goal.loop-trip-init
unfolding times_header line_with trip_id arrival_time departure_time stop_id stop_sequence
loop-trip-init c = search (rules, putting_start)

pub write_time-at-requires-clause-in_bounds : goal.write_time-at-requires-clause-in_bounds
write_time-at-requires-clause-in_bounds c =
    putting_room c.loop-trip.invariant c.as_chunks.ensures.front c.loop-trip-test.true c.position_after-position.ensures

pub write_time-at-requires-clause-arrival_value : goal.write_time-at-requires-clause-arrival_value
write_time-at-requires-clause-arrival_value c = putting_arrival c.loop-trip.invariant c.as_chunks.ensures.front c.loop-trip-test.true

pub write_time-at-requires-clause-departure_value : goal.write_time-at-requires-clause-departure_value
write_time-at-requires-clause-departure_value c = putting_departure c.loop-trip.invariant c.as_chunks.ensures.front c.loop-trip-test.true

pub loop-trip-preserved : goal.loop-trip-preserved
loop-trip-preserved c =
    putting_next c.loop-trip.invariant c.as_chunks.ensures.front c.loop-trip-test.true c.position_after-position.ensures c.write_time-at.ensures.value
    c.write_time-at.ensures.out_after

pub returns : goal.returns
unfolding times_header line_with trip_id arrival_time departure_time stop_id stop_sequence
returns c = putting_end c.loop-trip.invariant c.as_chunks.ensures.front c.args.out.now c.loop-trip-test.false c.write_text.ensures
