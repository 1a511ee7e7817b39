-- `calls_from`: the stop is an entry of the starts.
use borrow.Author.Rules.{rules}
use Rattle.repository.specs.Rows.{calls, starts_of, first_row}
use Rattle.repository.proofs.Rooms.{row_of_stop}
use Rattle.repository.proofs.calls.calls_from.Goals as goal

pub row_from-requires : goal.row_from-requires
unfolding starts_of
row_from-requires c = search (rules, row_of_stop calls)

pub returns : goal.returns
unfolding first_row starts_of
returns c = search rules
