-- `gtfs_write_transfers::write_span` meets its contract: digits and a line feed, or a line feed alone.
-- Assumes nothing.
use borrow.Author.Rules.{rules}
use Rattle.gtfs_write_transfers.proofs.Texts.{stated_asks, stated_end, stated_put, no_room, no_end, no_put}
use Rattle.gtfs_write_transfers.proofs.write_span.Goals as goal

pub bounds-out-at : goal.bounds-out-at
bounds-out-at c = search (rules, no_room)

pub returns-then-kind-ne2-clause-value : goal.returns-then-kind-ne2-clause-value
returns-then-kind-ne2-clause-value c = no_end _ _ _ c.if-kind-ne2.true

pub returns-then-kind-ne2-clause-out_after : goal.returns-then-kind-ne2-clause-out_after
returns-then-kind-ne2-clause-out_after c = no_put _ _ _ _ c.if-kind-ne2.true (search rules)

pub write_cell-requires : goal.write_cell-requires
write_cell-requires c = search (rules, stated_asks)

pub returns-clause-value : goal.returns-clause-value
returns-clause-value c = search (rules, stated_end)

pub returns-clause-out_after : goal.returns-clause-out_after
returns-clause-out_after c = search (rules, stated_put)
