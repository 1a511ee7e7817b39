-- `index_in_route`: the stored position is the first.
use borrow.Author.Rules.{rules}
use Rattle.repository.proofs.Exact.{first_position_lem}
use Rattle.discovery.proofs.index_in_route.Goals as goal

pub returns-clause-by_index : goal.returns-clause-by_index
returns-clause-by_index c = λ s o. search (rules, first_position_lem, o)
