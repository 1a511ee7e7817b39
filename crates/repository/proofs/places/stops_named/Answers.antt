-- `stops_named`: the area is an entry of the starts of the areas.
use borrow.Author.Rules.{rules}
use Rattle.repository.specs.NetOf.{net_of}
use Rattle.repository.proofs.Rooms.{stop_of_area}
use Rattle.repository.proofs.places.stops_named.Goals as goal

pub listing-requires : goal.listing-requires
listing-requires c = search (rules, stop_of_area)

pub returns : goal.returns
unfolding net_of
returns c = search
