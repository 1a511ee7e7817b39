-- `trip_times_ok`: each route decides.
use borrow.Author.Rules.{rules}
use Rattle.repository.specs.Sections.{routes, ROUTE_TRIP_STARTS}
use Rattle.repository.specs.Listed.{under, time_each, trip_times}
use Rattle.repository.proofs.All.{all_over}
use Rattle.check_listing.proofs.routes.trip_times_ok.Goals as goal

pub returns : goal.returns
unfolding trip_times
returns c =
    let w = c.args.tables.now in
    all_over (under w ROUTE_TRIP_STARTS (time_each w)) (0) (routes w) _ _ _ c.all.ensures.ran (search rules) (search rules) (λ x t q k. search rules)
