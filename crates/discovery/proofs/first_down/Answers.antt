-- `first_down`: two steps towards the first trip, none of them past the one that is looked for.
use borrow.Author.Rules.{rules}
use Rattle.discovery.proofs.Near.{closed_first, in_down, step_before, stop_down}
use Rattle.discovery.proofs.first_down.Goals as goal

pub returns-then-hi-eq0 : goal.returns-then-hi-eq0
returns-then-hi-eq0 c = search (rules, closed_first)

pub is_not_before-requires : goal.is_not_before-requires
is_not_before-requires c = search (rules, in_down)

pub returns-then-not-is_not_before : goal.returns-then-not-is_not_before
returns-then-not-is_not_before c = search (rules, stop_down)

pub loop-preserved : goal.loop-preserved
loop-preserved c = search (rules, step_before)
