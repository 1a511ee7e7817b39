-- `arrival_in`: the row is in range.
use borrow.Author.Rules.{rules}
use Rattle.repository.proofs.Reading.{arrival_room}
use Rattle.repository.proofs.times.arrival_in.Goals as goal

pub word-requires : goal.word-requires
word-requires c = search (rules, arrival_room)
