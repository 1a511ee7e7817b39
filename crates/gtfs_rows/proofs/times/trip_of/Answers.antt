-- `gtfs_rows::times::trip_of` meets its contract.
-- Assumes nothing.
use borrow.Author.Rules.{rules}
use Rattle.gtfs_rows.proofs.Naming.{trip_last, trip_gone, trip_new}
use Rattle.gtfs_rows.proofs.times.trip_of.Goals as goal

pub returns-then-is_last : goal.returns-then-is_last
returns-then-is_last c = search (rules, trip_last)

pub returns-in-Some : goal.returns-in-Some
returns-in-Some c = search (rules, trip_gone)

pub returns-in-None : goal.returns-in-None
returns-in-None c = search (rules, trip_new)
