-- `first_near`: looking upwards begins with a bracket around the place that is looked for.
use borrow.Author.Rules.{rules}
use Rattle.discovery.proofs.Near.{begin_up}
use Rattle.discovery.proofs.first_near.Goals as goal

pub first_up-requires-clause-bracket : goal.first_up-requires-clause-bracket
first_up-requires-clause-bracket c = search (rules, begin_up)
