-- `stop_count`: the stop list has one word for each.
use borrow.Author.Rules.{rules}
use Rattle.repository.specs.NetOf.{net_of}
use Rattle.repository.proofs.places.stop_count.Goals as goal

pub returns : goal.returns
unfolding net_of
returns c = search rules
