-- `item`: section k ends inside the tables.
use borrow.Author.Rules.{rules}
use Rattle.repository.proofs.Rooms.{room}
use Rattle.repository.proofs.words.item.Goals as goal

pub word-requires-clause-i_in_bounds : goal.word-requires-clause-i_in_bounds
word-requires-clause-i_in_bounds c = search (rules, room)
