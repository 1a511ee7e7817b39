-- `count_of`: both words are in the section.
use borrow.Author.Rules.{rules}
use Rattle.check_shape.proofs.Rooms.{entry_room, next_room, next_fits}
use Rattle.check_shape.proofs.count_of.Goals as goal

pub word-from-requires-clause-i_in_bounds : goal.word-from-requires-clause-i_in_bounds
word-from-requires-clause-i_in_bounds c = search (rules, entry_room)

pub overflow_add-i : goal.overflow_add-i
overflow_add-i c = record { fits = search (rules, next_fits) }

pub word-to-requires-clause-i_in_bounds : goal.word-to-requires-clause-i_in_bounds
word-to-requires-clause-i_in_bounds c = search (rules, next_room)
