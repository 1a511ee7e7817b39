-- `transfer_duration`: MAX is no stated span.
use borrow.Author.Rules.{rules}
use Rattle.discovery.proofs.Spans.{span_stated, span_walked}
use Rattle.discovery.proofs.transfer_duration.Goals as goal

pub returns-then-stated : goal.returns-then-stated
returns-then-stated c = search (rules, span_stated)

pub returns : goal.returns
returns c = search (rules, span_walked)
