-- `gtfs_c::kiosk_gtfs_read` meets its contract: too few words, or what `read` answers and leaves.
-- Assumes nothing.
use borrow.Author.Rules.{rules}
use Rattle.gtfs_c.proofs.Readings.{too_few, feed_faced}
use Rattle.gtfs_c.proofs.kiosk_gtfs_read.Goals as goal

pub returns-then-told-lt8 : goal.returns-then-told-lt8
returns-then-told-lt8 c = search (rules, too_few)

pub returns : goal.returns
returns c = search (rules, feed_faced)
