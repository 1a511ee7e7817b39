-- `kiosk_c::kiosk_room` meets its contract: the three lengths, or the number.
use borrow.Author.Rules.{rules}
use Rattle.kiosk_c.proofs.Rooms.{words_few, marks_few, places_few, no_room, no_room_left, room_number_lem, room_left_lem, refused_number, refused_left}
use Rattle.kiosk_c.proofs.kiosk_room.Goals as goal

pub returns-in-Err-clause-value : goal.returns-in-Err-clause-value
returns-in-Err-clause-value c = search (rules, refused_number)

pub returns-in-Err-clause-room_after : goal.returns-in-Err-clause-room_after
returns-in-Err-clause-room_after c = search (rules, refused_left)

pub returns-then-room-lt3-clause-value : goal.returns-then-room-lt3-clause-value
returns-then-room-lt3-clause-value c = search (rules, no_room)

pub returns-then-room-lt3-clause-room_after : goal.returns-then-room-lt3-clause-room_after
returns-then-room-lt3-clause-room_after c = search (rules, no_room_left)

pub overflow_cast-words : goal.overflow_cast-words
overflow_cast-words c = search (rules, words_few)

pub overflow_cast-words-2 : goal.overflow_cast-words-2
overflow_cast-words-2 c = search (rules, marks_few)

pub overflow_cast-words-3 : goal.overflow_cast-words-3
overflow_cast-words-3 c = search (rules, places_few)

pub returns-clause-value : goal.returns-clause-value
returns-clause-value c = search (rules, room_number_lem)

pub returns-clause-room_after : goal.returns-clause-room_after
returns-clause-room_after c = search (rules, room_left_lem)
