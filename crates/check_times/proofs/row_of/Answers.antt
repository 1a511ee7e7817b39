-- `row_of`: from the route to the trip, and from the trip to its row.
use borrow.Author.Rules.{rules}
use Rattle.check_times.proofs.Rooms.{trip_there, row_is, rows_in}
use Rattle.check_times.proofs.row_of.Goals as goal

pub time_row-requires : goal.time_row-requires
time_row-requires c = search (rules, trip_there)

pub returns-clause-value : goal.returns-clause-value
returns-clause-value c = search (rules, row_is)

pub returns-clause-r_bound_2 : goal.returns-clause-r_bound_2
returns-clause-r_bound_2 c = search (rules, rows_in)
