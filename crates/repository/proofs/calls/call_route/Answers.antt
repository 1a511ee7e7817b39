-- `call_route`: the first word of the row.
use borrow.Author.Rules.{rules}
use Rattle.repository.specs.Rows.{calls, starts_of, wide_of}
use Rattle.repository.proofs.Reading.{cell_room_0}
use Rattle.repository.proofs.calls.call_route.Goals as goal

pub word-requires : goal.word-requires
unfolding starts_of wide_of
word-requires c = search (rules, cell_room_0 calls)
