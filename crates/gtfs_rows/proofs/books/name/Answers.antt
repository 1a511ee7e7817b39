-- `gtfs_rows::books::name` meets its contract.
-- Assumes nothing.
use borrow.Author.Rules.{rules}
use Rattle.gtfs_rows.proofs.Naming.{count_old, count_new, name_old, name_new}
use Rattle.gtfs_rows.proofs.books.name.Goals as goal

pub returns-then-number-shelf-clause-value : goal.returns-then-number-shelf-clause-value
returns-then-number-shelf-clause-value c = search (rules, count_old)

pub returns-then-number-shelf-clause-booked : goal.returns-then-number-shelf-clause-booked
returns-then-number-shelf-clause-booked c = search (rules, name_old)

pub returns-clause-value : goal.returns-clause-value
returns-clause-value c = search (rules, count_new)

pub returns-clause-booked : goal.returns-clause-booked
returns-clause-booked c = search (rules, name_new)
