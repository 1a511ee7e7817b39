-- `gtfs_headers::any` meets its contract: by where the column stands.
-- Assumes nothing.
use Rattle.feed.specs.Columns.{any_place}
use Rattle.gtfs_headers.proofs.any.Goals as goal

pub returns-in-At : goal.returns-in-At
unfolding any_place
returns-in-At c = rw (← c.in-At.ensures)

pub returns-in-Absent : goal.returns-in-Absent
unfolding any_place
returns-in-Absent c = rw (← c.in-Absent.ensures)

pub returns-in-Twice : goal.returns-in-Twice
unfolding any_place
returns-in-Twice c = rw (← c.in-Twice.ensures)
