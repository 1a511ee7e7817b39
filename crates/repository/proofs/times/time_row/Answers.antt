-- `time_row`: the trip is an entry of the starts of the times.
use borrow.Author.Rules.{rules}
use Rattle.repository.specs.Rows.{time_row}
use Rattle.repository.proofs.Rooms.{time_of_trip}
use Rattle.repository.proofs.times.time_row.Goals as goal

pub row_from-requires : goal.row_from-requires
row_from-requires c = search (rules, time_of_trip)

pub returns : goal.returns
unfolding time_row
returns c = search rules
