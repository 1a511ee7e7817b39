-- `transfer_to`: the second word of the row.
use borrow.Author.Rules.{rules}
use Rattle.repository.specs.Rows.{transfers, starts_of, wide_of}
use Rattle.repository.specs.NetOf.{transfer_row}
use Rattle.repository.proofs.Reading.{cell_room}
use Rattle.repository.proofs.footpaths.transfer_to.Goals as goal

pub word-requires : goal.word-requires
unfolding starts_of wide_of
word-requires c = search (rules, cell_room transfers)

pub returns : goal.returns
unfolding transfer_row
returns c = search rules
