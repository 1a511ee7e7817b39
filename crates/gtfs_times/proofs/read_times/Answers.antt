-- `gtfs_times::read_times` meets its contract.
-- Assumes nothing.
use borrow.Author.Rules.{rules}
use Rattle.gtfs_times.proofs.Opening.{cleared_room, no_stop_names, no_trip_names, rows_begin, rows_inside, rows_told, rows_left, none_told, none_left}
use Rattle.gtfs_times.proofs.read_times.Goals as goal

pub read_rows-requires-clause-times_room : goal.read_rows-requires-clause-times_room
read_rows-requires-clause-times_room c = search (rules, cleared_room)

pub read_rows-requires-clause-book : goal.read_rows-requires-clause-book
read_rows-requires-clause-book c = search (rules, no_stop_names)

pub read_rows-requires-clause-book_2 : goal.read_rows-requires-clause-book_2
read_rows-requires-clause-book_2 c = search (rules, no_trip_names)

pub read_rows-requires-clause-le_from : goal.read_rows-requires-clause-le_from
read_rows-requires-clause-le_from c = search (rules, rows_begin)

pub read_rows-requires-clause-from_in_bounds : goal.read_rows-requires-clause-from_in_bounds
read_rows-requires-clause-from_in_bounds c = search (rules, rows_inside)

pub returns-in-Some-clause-value : goal.returns-in-Some-clause-value
returns-in-Some-clause-value c = search (rules, rows_told)

pub returns-in-Some-clause-times_left : goal.returns-in-Some-clause-times_left
returns-in-Some-clause-times_left c = search (rules, rows_left)

pub returns-in-None-clause-value : goal.returns-in-None-clause-value
returns-in-None-clause-value c = search (rules, none_told)

pub returns-in-None-clause-times_left : goal.returns-in-None-clause-times_left
returns-in-None-clause-times_left c = search (rules, none_left)
