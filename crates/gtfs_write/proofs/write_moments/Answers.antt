-- `gtfs_write::write_moments` meets its contract: two cells that meet.
-- Assumes nothing.
use borrow.Author.Rules.{rules}
use Rattle.gtfs_write.proofs.Moments.{moments_put}
use Rattle.gtfs_write.proofs.write_moments.Goals as goal

pub returns : goal.returns
returns c = search (rules, moments_put)
