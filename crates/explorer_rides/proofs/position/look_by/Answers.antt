-- `look_by`: both tests, one after the other.
use borrow.Author.Rules.{rules}
use Rattle.explorer_rides.proofs.Boarding.{look_on}
use Rattle.explorer_rides.proofs.position.look_by.Goals as goal

pub returns-then-proposes : goal.returns-then-proposes
returns-then-proposes c = search (rules, look_on)

pub returns : goal.returns
returns c = search (rules, look_on)
