-- `area_once_ok`: the stops of areas have a mark each.
use borrow.Author.Rules.{rules}
use Rattle.check_listing.proofs.Fits.{area_fit, unmarked}
use Rattle.check_listing.proofs.areas.area_once_ok.Goals as goal

pub marked_once-requires-clause-fitting : goal.marked_once-requires-clause-fitting
marked_once-requires-clause-fitting c = search (rules, area_fit)

pub marked_once-requires-clause-unmarked : goal.marked_once-requires-clause-unmarked
marked_once-requires-clause-unmarked c = unmarked 64
