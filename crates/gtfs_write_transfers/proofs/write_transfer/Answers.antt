-- `gtfs_write_transfers::write_transfer` meets its contract: two pairs of cells that meet.
-- Assumes nothing.
use borrow.Author.Rules.{rules}
use Rattle.gtfs_write_transfers.proofs.Texts.{stops_ask, kind_asks, transfer_end, transfer_put}
use Rattle.gtfs_write_transfers.proofs.write_transfer.Goals as goal

pub write_pair-e-requires : goal.write_pair-e-requires
write_pair-e-requires c = search (rules, stops_ask)

pub write_kind-requires : goal.write_kind-requires
write_kind-requires c = search (rules, kind_asks)

pub returns-clause-value : goal.returns-clause-value
returns-clause-value c = search (rules, transfer_end)

pub returns-clause-out_after : goal.returns-clause-out_after
returns-clause-out_after c = search (rules, transfer_put)
