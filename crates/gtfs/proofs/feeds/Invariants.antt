-- `gtfs::feeds` ends: less is left after each feed, and never more than there was.
use Rattle.std.proofs.Common.{◌≤◌, length}
use Rattle.gtfs.proofs.feeds.Given as goal

abbrev pub invariant-loop-rest : goal.invariant-loop-rest
invariant-loop-rest l = length l.rest ≤ length l.bytes

abbrev pub decreases-loop-rest : goal.decreases-loop-rest
decreases-loop-rest l = length l.rest
