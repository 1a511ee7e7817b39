-- `walk_ok`: the word is in the row.
use borrow.Author.Rules.{rules}
use Rattle.check_tables.proofs.Rooms.{walk_room}
use Rattle.check_tables.proofs.distances.walk_ok.Goals as goal

pub word-requires-clause-i_in_bounds : goal.word-requires-clause-i_in_bounds
word-requires-clause-i_in_bounds c = search (rules, walk_room)
