-- `route_len`: the route is an entry of the starts of the stops.
use borrow.Author.Rules.{rules}
use Rattle.repository.specs.NetOf.{net_of}
use Rattle.repository.proofs.Rooms.{stop_of_route}
use Rattle.repository.proofs.Reading.{list_entry}
use Rattle.repository.proofs.routes.route_len.Goals as goal

pub row_count-requires : goal.row_count-requires
row_count-requires c = search (rules, list_entry, stop_of_route)

pub returns : goal.returns
unfolding net_of
returns c = search rules
