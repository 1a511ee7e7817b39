-- `children`: the stop is an entry of the starts of the children.
use borrow.Author.Rules.{rules}
use Rattle.repository.specs.NetOf.{net_of}
use Rattle.repository.proofs.Rooms.{child_of_stop}
use Rattle.repository.proofs.places.children.Goals as goal

pub listing-requires : goal.listing-requires
listing-requires c = search (rules, child_of_stop)

pub returns : goal.returns
unfolding net_of
returns c = search
