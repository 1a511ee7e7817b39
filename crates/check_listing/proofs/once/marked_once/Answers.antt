-- `marked_once`: the words up to i are distinct, and marked.
use borrow.Author.Rules.{rules}
use Rattle.check_listing.proofs.Marking.{marking_start, mark_room, marked_twice, left_twice, marking_on}
use Rattle.check_listing.proofs.Marking.{marked_all, left_all, marks_stand, marks_none}
use Rattle.check_listing.proofs.once.marked_once.Goals as goal

pub loop-i-init : goal.loop-i-init
loop-i-init c = (search (rules, marking_start), search rules)

pub is_marked-requires : goal.is_marked-requires
is_marked-requires c = search (rules, mark_room)

pub returns-then-is_marked-clause-value : goal.returns-then-is_marked-clause-value
returns-then-is_marked-clause-value c = search (rules, marked_twice)

pub returns-then-is_marked-clause-marks_after : goal.returns-then-is_marked-clause-marks_after
returns-then-is_marked-clause-marks_after c = search (rules, left_twice)

pub returns-then-is_marked-clause-just_marked : goal.returns-then-is_marked-clause-just_marked
returns-then-is_marked-clause-just_marked c = marks_none

pub set_mark-requires : goal.set_mark-requires
set_mark-requires c = search (rules, mark_room)

pub loop-i-preserved : goal.loop-i-preserved
loop-i-preserved c = (search (rules, marking_on), search rules)

pub returns-clause-value : goal.returns-clause-value
returns-clause-value c = search (rules, marked_all)

pub returns-clause-marks_after : goal.returns-clause-marks_after
returns-clause-marks_after c = search (rules, left_all)

pub returns-clause-just_marked : goal.returns-clause-just_marked
returns-clause-just_marked c = search (rules, marks_stand)
