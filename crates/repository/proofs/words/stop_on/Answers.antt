-- `stop_on`: the position stands inside the route's stops.
use borrow.Author.Rules.{rules}
use Rattle.repository.proofs.Leaves.{stop_word_in}
use Rattle.repository.proofs.words.stop_on.Goals as goal

pub item-requires-clause-i_bound : goal.item-requires-clause-i_bound
item-requires-clause-i_bound c = search (rules, stop_word_in)
