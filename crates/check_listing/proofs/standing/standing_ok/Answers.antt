-- `standing_ok`: the place is one under the route.
use borrow.Author.Rules.{rules}
use Rattle.check_calls.proofs.Rooms.{row_in}
use Rattle.check_listing.proofs.standing.standing_ok.Goals as goal

pub item-requires-clause-i_bound : goal.item-requires-clause-i_bound
item-requires-clause-i_bound c =
    row_in c.requires.laid.route_trip_starts c.item-r.result (search rules) (search rules) c.rows_under-places.ensures.end
