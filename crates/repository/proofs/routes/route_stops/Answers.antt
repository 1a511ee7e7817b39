-- `route_stops`: the part is the stops, position by position.
use borrow.Author.Rules.{rules}
use Rattle.repository.proofs.Rooms.{stop_of_route}
use Rattle.repository.proofs.Reading.{stops_are}
use Rattle.repository.proofs.routes.route_stops.Goals as goal

pub listing-requires : goal.listing-requires
listing-requires c = search (rules, stop_of_route)

pub returns : goal.returns
returns c = search (rules, stops_are)
