-- `is_right_from`: how the legs begin, where, and where they come in.
use Rattle.std.proofs.Common.{sym, ◌∙◌}
use Rattle.judge.proofs.Steps.{right_from}
use Rattle.judge.proofs.is_right_from.Goals as goal
use Rattle.judge.proofs.is_right_from.Goals.{then-may_begin, else-may_begin}

pub returns-then-in_place : goal.returns-then-in_place
returns-then-in_place c =
    elim c.if-may_begin.branch [
      | then-may_begin w ↦
          right_from _ _ _ c.requires.bytes_value c.may_begin.ensures w.if-may_begin.true w.in_place.ensures
          (sym w.value-is ∙ c.if-in_place.true) c.soonest.ensures c.may_walk-walking.ensures c.follow.ensures c.comes_in.ensures
      | else-may_begin w ↦ cc
    ]
