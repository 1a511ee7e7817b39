-- `explore_route`: a route from its mark, where the mark is a position.
use borrow.Author.Rules.{rules}
use Rattle.explorer_rides.proofs.Routes.{rideable, route_scanned, route_passed}
use Rattle.explorer_rides.proofs.route.explore_route.Goals as goal

pub scan-requires-clause-rideable : goal.scan-requires-clause-rideable
scan-requires-clause-rideable c = search (rules, rideable)

pub returns-then-from-route_len : goal.returns-then-from-route_len
returns-then-from-route_len c = search (rules, route_scanned)

pub returns-else-from-route_len : goal.returns-else-from-route_len
returns-else-from-route_len c = search (rules, route_passed)
