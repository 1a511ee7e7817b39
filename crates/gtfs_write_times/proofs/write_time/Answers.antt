-- `gtfs_write_times::write_time` meets its contract: a cell, the moments, and two cells.
-- Assumes nothing.
use borrow.Author.Rules.{rules}
use Rattle.gtfs_write_times.proofs.Lines.{trip_asks, moments_ask, place_fits, place_asks, time_end, time_put}
use Rattle.gtfs_write_times.proofs.write_time.Goals as goal

pub write_cell-e-requires : goal.write_cell-e-requires
write_cell-e-requires c = search (rules, trip_asks)

pub write_moments-requires-clause-at_in_bounds : goal.write_moments-requires-clause-at_in_bounds
write_moments-requires-clause-at_in_bounds c = search (rules, moments_ask)

pub overflow_add-e : goal.overflow_add-e
overflow_add-e c = record { fits = search (rules, place_fits) }

pub write_pair-requires : goal.write_pair-requires
write_pair-requires c = search (rules, place_asks)

pub returns-clause-value : goal.returns-clause-value
returns-clause-value c = search (rules, time_end)

pub returns-clause-out_after : goal.returns-clause-out_after
returns-clause-out_after c = search (rules, time_put)
