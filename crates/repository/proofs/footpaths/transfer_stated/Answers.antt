-- `transfer_stated`: the third word of the row.
use borrow.Author.Rules.{rules}
use Rattle.repository.specs.Rows.{transfers, starts_of, wide_of}
use Rattle.repository.proofs.Reading.{cell_room}
use Rattle.repository.proofs.footpaths.transfer_stated.Goals as goal

pub word-requires : goal.word-requires
unfolding starts_of wide_of
word-requires c = search (rules, cell_room transfers)
