-- `area_count`: the starts of the areas have one entry more.
use borrow.Author.Rules.{rules}
use Rattle.repository.specs.NetOf.{net_of}
use Rattle.repository.proofs.places.area_count.Goals as goal

pub returns : goal.returns
unfolding net_of
returns c = search rules
