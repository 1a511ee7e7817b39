-- `transfer_metres`: the fourth word of the row, which accepted tables have as a stretch.
use borrow.Author.Rules.{rules}
use Rattle.repository.specs.Rows.{transfers, starts_of, wide_of}
use Rattle.repository.proofs.Reading.{cell_room, transfer_stretch, stretch_of}
use Rattle.repository.proofs.footpaths.transfer_metres.Goals as goal

pub word-bits-requires : goal.word-bits-requires
unfolding starts_of wide_of
word-bits-requires c = search (rules, cell_room transfers)

pub distance_of-requires : goal.distance_of-requires
distance_of-requires c = search (rules, transfer_stretch)

pub returns-clause-stretch : goal.returns-clause-stretch
returns-clause-stretch c = search (rules, stretch_of, transfer_stretch)
