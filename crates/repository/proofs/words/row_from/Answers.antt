-- `row_from`: the entry is in its section.
use borrow.Author.Rules.{rules}
use Rattle.repository.proofs.Leaves.{entry_room}
use Rattle.repository.proofs.words.row_from.Goals as goal

pub word-requires : goal.word-requires
word-requires c = search (rules, entry_room)
