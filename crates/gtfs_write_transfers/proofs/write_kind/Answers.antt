-- `gtfs_write_transfers::write_kind` meets its contract: two cells that meet.
-- Assumes nothing.
use borrow.Author.Rules.{rules}
use Rattle.gtfs_write.proofs.Filled.{meet_first, meet_second, meet_end, meet_put}
use Rattle.gtfs_write_transfers.proofs.write_kind.Goals as goal

pub write_cell-e-requires : goal.write_cell-e-requires
write_cell-e-requires c = search (rules, meet_first)

pub write_span-requires : goal.write_span-requires
write_span-requires c = search (rules, meet_second)

pub returns-clause-value : goal.returns-clause-value
returns-clause-value c = search (rules, meet_end)

pub returns-clause-out_after : goal.returns-clause-out_after
returns-clause-out_after c = search (rules, meet_put)
