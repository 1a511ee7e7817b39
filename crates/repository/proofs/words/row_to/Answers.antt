-- `row_to`: the next entry is in its section.
use borrow.Author.Rules.{rules}
use Rattle.repository.proofs.Leaves.{next_room}
use Rattle.repository.proofs.words.row_to.Goals as goal

pub word-requires : goal.word-requires
word-requires c = search (rules, next_room)
