-- `raptor_rounds::search` meets its contract: the workspace cleared, the start stops, then the rounds.
use borrow.Author.Rules.{rules}
use Rattle.raptor_rounds.proofs.Loop.{begun}
use Rattle.raptor_rounds.proofs.search.Goals as goal

pub rounds-requires : goal.rounds-requires
rounds-requires c = search (rules, begun)
