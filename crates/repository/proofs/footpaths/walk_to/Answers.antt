-- `walk_to`: the first word of the row.
use borrow.Author.Rules.{rules}
use Rattle.repository.specs.Rows.{walks, starts_of, wide_of}
use Rattle.repository.specs.NetOf.{walk_row}
use Rattle.repository.proofs.Reading.{cell_room_0}
use Rattle.repository.proofs.footpaths.walk_to.Goals as goal

pub word-requires : goal.word-requires
unfolding starts_of wide_of
word-requires c = search (rules, cell_room_0 walks)

pub returns : goal.returns
unfolding walk_row
returns c = search rules
