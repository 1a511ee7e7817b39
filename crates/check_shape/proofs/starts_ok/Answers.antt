-- `starts_ok`: every word that it reads is in the section.
use borrow.Author.Rules.{rules}
use Rattle.check_shape.proofs.Rooms.{first_room, last_room, starts_room}
use Rattle.check_shape.proofs.starts_ok.Goals as goal

pub word-first-requires-clause-i_in_bounds : goal.word-first-requires-clause-i_in_bounds
word-first-requires-clause-i_in_bounds c = search (rules, first_room)

pub word-last-requires-clause-i_in_bounds : goal.word-last-requires-clause-i_in_bounds
word-last-requires-clause-i_in_bounds c = search (rules, last_room)

pub never_falls-requires : goal.never_falls-requires
never_falls-requires c = search (rules, starts_room)
