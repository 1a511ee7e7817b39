-- `gtfs_write_transfers::put_transfers` meets its contract: what is written is the front of the text.
-- Assumes nothing.
use borrow.Author.Rules.{rules}
use Rattle.feed.specs.Columns.{from_stop_id, to_stop_id, transfer_type, min_transfer_time}
use Rattle.feed.specs.Writing.{line_with, transfers_header}
use Rattle.gtfs_write_transfers.proofs.Texts.{header_room, putting_start, putting_next, putting_end, putting_room}
use Rattle.gtfs_write_transfers.proofs.put_transfers.Goals as goal

pub write_text-requires : goal.write_text-requires
write_text-requires c = search (rules, header_room)

pub loop-from-init : goal.loop-from-init
unfolding transfers_header line_with from_stop_id to_stop_id transfer_type min_transfer_time
loop-from-init c = search (rules, putting_start)

pub write_transfer-at-requires : goal.write_transfer-at-requires
write_transfer-at-requires c = putting_room c.loop-from.invariant c.as_chunks.ensures.front c.loop-from-test.true

pub loop-from-preserved : goal.loop-from-preserved
loop-from-preserved c =
    putting_next c.loop-from.invariant c.as_chunks.ensures.front c.loop-from-test.true c.write_transfer-at.ensures.value
    c.write_transfer-at.ensures.out_after

pub returns : goal.returns
unfolding transfers_header line_with from_stop_id to_stop_id transfer_type min_transfer_time
returns c = putting_end c.loop-from.invariant c.as_chunks.ensures.front c.args.out.now c.loop-from-test.false c.write_text.ensures
