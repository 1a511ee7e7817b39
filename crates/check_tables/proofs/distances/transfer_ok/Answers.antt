-- `transfer_ok`: both words are in the row.
use borrow.Author.Rules.{rules}
use Rattle.check_tables.proofs.Rooms.{span_room, transfer_room}
use Rattle.check_tables.proofs.distances.transfer_ok.Goals as goal

pub word-span-requires-clause-i_in_bounds : goal.word-span-requires-clause-i_in_bounds
word-span-requires-clause-i_in_bounds c = search (rules, span_room)

pub word-bits-requires-clause-i_in_bounds : goal.word-bits-requires-clause-i_in_bounds
word-bits-requires-clause-i_in_bounds c = search (rules, transfer_room)
