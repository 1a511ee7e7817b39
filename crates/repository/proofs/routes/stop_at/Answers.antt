-- `stop_at`: the network's stop is the tables'.
use borrow.Author.Rules.{rules}
use Rattle.repository.specs.NetOf.{net_of}
use Rattle.repository.proofs.routes.stop_at.Goals as goal

pub stop_on-requires : goal.stop_on-requires
unfolding net_of
stop_on-requires c = search rules

pub returns : goal.returns
unfolding net_of
returns c = search rules
