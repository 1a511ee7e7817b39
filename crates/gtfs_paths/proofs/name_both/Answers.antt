-- `gtfs_paths::name_both` meets its contract: the second stop is put behind the first.
-- Assumes nothing.
use Rattle.gtfs_paths.proofs.Taking.{both_booked, turned_on, far_next, counted_both}
use Rattle.gtfs_paths.proofs.name_both.Goals as goal

pub name-requires-clause-split_le_count : goal.name-requires-clause-split_le_count
name-requires-clause-split_le_count c = turned_on _ _ (rw c.shelf-shelf.ensures at c.name-one.ensures.value) c.requires.turned

pub name-requires-clause-number_le_count : goal.name-requires-clause-number_le_count
name-requires-clause-number_le_count c = far_next _ _ (rw c.shelf-shelf.ensures at c.name-one.ensures.value) c.requires.far_next

pub returns-clause-value : goal.returns-clause-value
returns-clause-value c = counted_both _ _ _ (rw c.shelf-shelf.ensures at c.name-one.ensures.value) c.name.ensures.value

pub returns-clause-booked : goal.returns-clause-booked
returns-clause-booked c = both_booked _ _ (rw c.shelf-shelf.ensures at c.name-one.ensures.booked) c.name.ensures.value c.name.ensures.booked
