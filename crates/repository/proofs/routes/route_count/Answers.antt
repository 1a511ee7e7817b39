-- `route_count`: the starts of the stops have one entry more.
use borrow.Author.Rules.{rules}
use Rattle.repository.specs.NetOf.{net_of}
use Rattle.repository.proofs.routes.route_count.Goals as goal

pub returns : goal.returns
unfolding net_of
returns c = search rules
