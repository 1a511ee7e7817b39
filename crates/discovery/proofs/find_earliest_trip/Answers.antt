-- `find_earliest_trip`: the place that was found, where it is one of the route.
use borrow.Author.Rules.{rules}
use Rattle.discovery.proofs.Earliest.{earliest_at, earliest_past}
use Rattle.discovery.proofs.Near.{along}
use Rattle.discovery.proofs.find_earliest_trip.Goals as goal

pub first_near-i-requires-clause-along : goal.first_near-i-requires-clause-along
first_near-i-requires-clause-along c = search (rules, along)

pub returns-then-i-n : goal.returns-then-i-n
returns-then-i-n c = search (rules, earliest_at)

pub returns-else-i-n : goal.returns-else-i-n
returns-else-i-n c = search (rules, earliest_past)
