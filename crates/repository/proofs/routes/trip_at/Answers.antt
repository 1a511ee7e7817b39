-- `trip_at`: the place is in range, and the word is the trip.
use borrow.Author.Rules.{rules}
use Rattle.repository.proofs.Rooms.{trip_of_route}
use Rattle.repository.proofs.Reading.{list_entry, trip_room, trip_at_is}
use Rattle.repository.proofs.routes.trip_at.Goals as goal

pub row_from-a-requires : goal.row_from-a-requires
row_from-a-requires c = search (rules, list_entry, trip_of_route)

pub word-requires : goal.word-requires
word-requires c = search (rules, trip_room)

pub returns : goal.returns
returns c = search trip_at_is
