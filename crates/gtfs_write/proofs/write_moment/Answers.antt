-- `gtfs_write::write_moment` meets its contract: the comma stands behind the moment.
-- Assumes nothing.
use borrow.Author.Rules.{rules}
use Rattle.feed.proofs.Faultless.{moment_low, moment_high}
use Rattle.gtfs_write.proofs.Moments.{moment_put}
use Rattle.gtfs_write.proofs.write_moment.Goals as goal

pub write_clock-requires-clause-le_m : goal.write_clock-requires-clause-le_m
write_clock-requires-clause-le_m c = search (rules, moment_low)

pub write_clock-requires-clause-m_bound : goal.write_clock-requires-clause-m_bound
write_clock-requires-clause-m_bound c = search (rules, moment_high)

pub returns : goal.returns
returns c = search (rules, moment_put)
