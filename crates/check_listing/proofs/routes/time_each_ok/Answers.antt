-- `time_each_ok`: the trip is one of the routes' trips.
use borrow.Author.Rules.{rules}
use Rattle.check_calls.proofs.Entries.{route_entry}
use Rattle.check_listing.proofs.Fits.{trip_entry}
use Rattle.check_listing.proofs.routes.time_each_ok.Goals as goal

pub row_count-requires-clause-entry : goal.row_count-requires-clause-entry
row_count-requires-clause-entry c = search (rules, trip_entry)

pub row_count-requires-2-clause-entry : goal.row_count-requires-2-clause-entry
row_count-requires-2-clause-entry c = search (rules, route_entry)
