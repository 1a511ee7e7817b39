-- `children_ok`: children that name their stations are stops, and have a mark each.
use borrow.Author.Rules.{rules}
use Rattle.check_listing.proofs.Fits.{children_fit, unmarked}
use Rattle.check_listing.proofs.children.children_ok.Goals as goal

pub marked_once-requires-clause-fitting : goal.marked_once-requires-clause-fitting
marked_once-requires-clause-fitting c = search (rules, children_fit)

pub marked_once-requires-clause-unmarked : goal.marked_once-requires-clause-unmarked
marked_once-requires-clause-unmarked c = unmarked 64
