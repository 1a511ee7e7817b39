-- `route_trips_ok`: trips in range have a mark each.
use borrow.Author.Rules.{rules}
use Rattle.check_listing.proofs.Fits.{trips_fit, unmarked}
use Rattle.check_listing.proofs.routes.route_trips_ok.Goals as goal

pub marked_once-requires-clause-fitting : goal.marked_once-requires-clause-fitting
marked_once-requires-clause-fitting c = search (rules, trips_fit)

pub marked_once-requires-clause-unmarked : goal.marked_once-requires-clause-unmarked
marked_once-requires-clause-unmarked c = unmarked 256
