-- `walk_duration`: the walking span of the row's metres.
use borrow.Author.Rules.{rules}
use Rattle.discovery.proofs.Spans.{span_of_walk}
use Rattle.discovery.proofs.walk_duration.Goals as goal

pub returns : goal.returns
returns c = search (rules, span_of_walk)
