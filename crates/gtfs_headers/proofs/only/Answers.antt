-- `gtfs_headers::only` meets its contract: by where the column stands.
-- Assumes nothing.
use Rattle.feed.specs.Columns.{only_place}
use Rattle.gtfs_headers.proofs.only.Goals as goal

pub returns-in-At : goal.returns-in-At
unfolding only_place
returns-in-At c = rw (← c.in-At.ensures)

pub returns-in-Absent : goal.returns-in-Absent
unfolding only_place
returns-in-Absent c = rw (← c.in-Absent.ensures)

pub returns-in-Twice : goal.returns-in-Twice
unfolding only_place
returns-in-Twice c = rw (← c.in-Twice.ensures)
