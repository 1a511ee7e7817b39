-- `departure_in`: the row is in range.
use borrow.Author.Rules.{rules}
use Rattle.repository.proofs.Reading.{departure_room}
use Rattle.repository.proofs.times.departure_in.Goals as goal

pub word-requires : goal.word-requires
word-requires c = search (rules, departure_room)
