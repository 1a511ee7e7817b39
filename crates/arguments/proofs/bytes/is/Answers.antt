-- `arguments::bytes::is`: the library's `==` is the definition's.
use borrow.Author.Rules.{rules}
use Rattle.arguments.proofs.Word.{equals}
use Rattle.arguments.proofs.bytes.is.Goals as goal

pub returns : goal.returns
returns c = search (rules, equals)
