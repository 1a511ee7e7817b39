-- `arguments::bytes::begins_with`: the library's `starts_with` is the definition's.
use borrow.Author.Rules.{rules}
use Rattle.arguments.proofs.Word.{starts}
use Rattle.arguments.proofs.bytes.begins_with.Goals as goal

pub returns : goal.returns
returns c = search (rules, starts)
