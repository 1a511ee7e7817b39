-- `route_of`: the first word of the trip's row.
use borrow.Author.Rules.{rules}
use Rattle.repository.specs.Rows.{route_of_trip}
use Rattle.repository.proofs.Reading.{standing_room}
use Rattle.repository.proofs.routes.route_of.Goals as goal

pub word-requires : goal.word-requires
word-requires c = search (rules, standing_room)

pub returns : goal.returns
unfolding route_of_trip
returns c = search rules
