-- `calls_to`: the stop is an entry of the starts, none of which is past the rows.
use borrow.Author.Rules.{rules}
use Rattle.repository.specs.Rows.{calls, starts_of, past_row}
use Rattle.repository.proofs.Rooms.{row_of_stop}
use Rattle.repository.proofs.Reading.{past_known}
use Rattle.repository.proofs.calls.calls_to.Goals as goal

pub row_to-requires : goal.row_to-requires
unfolding starts_of
row_to-requires c = search (rules, row_of_stop calls)

pub returns-clause-value : goal.returns-clause-value
unfolding past_row starts_of
returns-clause-value c = search rules

pub returns-clause-upper_bound : goal.returns-clause-upper_bound
unfolding past_row starts_of
returns-clause-upper_bound c = search (rules, past_known calls)
