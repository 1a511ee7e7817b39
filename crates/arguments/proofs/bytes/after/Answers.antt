-- `arguments::bytes::after`: a word that the argument begins with is no longer than it.
use borrow.Author.Rules.{rules}
use Rattle.arguments.proofs.Word.{starts_fits}
use Rattle.arguments.proofs.bytes.after.Goals as goal

pub returns-then-begins_with-clause-upper_bound : goal.returns-then-begins_with-clause-upper_bound
returns-then-begins_with-clause-upper_bound c = search (rules, starts_fits)
