-- `first_up`: two steps away from the first trip, none of them past the one that is looked for.
use borrow.Author.Rules.{rules}
use Rattle.discovery.proofs.Near.{closed, in_up, step_after, stop_up}
use Rattle.discovery.proofs.first_up.Goals as goal

pub returns-then-lo-to : goal.returns-then-lo-to
returns-then-lo-to c = search (rules, closed)

pub is_not_before-requires : goal.is_not_before-requires
is_not_before-requires c = search (rules, in_up)

pub returns-then-is_not_before : goal.returns-then-is_not_before
returns-then-is_not_before c = search (rules, stop_up)

pub loop-preserved : goal.loop-preserved
loop-preserved c = search (rules, step_after)
