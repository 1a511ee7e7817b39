-- `gtfs_write::write_cell` meets its contract: the byte stands behind the digits.
-- Assumes nothing.
use borrow.Author.Rules.{rules}
use Rattle.gtfs_write.proofs.Filled.{cell_asks, cell_end, cell_room, cell_fits, cell_put}
use Rattle.gtfs_write.proofs.write_cell.Goals as goal

pub write_decimal-e-requires : goal.write_decimal-e-requires
write_decimal-e-requires c = search (rules, cell_asks)

pub bounds-out-e : goal.bounds-out-e
bounds-out-e c = search (rules, cell_room)

pub overflow_add-result : goal.overflow_add-result
overflow_add-result c = record { fits = search (rules, cell_fits) }

pub returns-clause-value : goal.returns-clause-value
returns-clause-value c = search (rules, cell_end)

pub returns-clause-out_after : goal.returns-clause-out_after
returns-clause-out_after c = search (rules, cell_put)
