-- `called_ok`: the row found by halving is the only one that can name the route.
use borrow.Author.Rules.{rules}
use Rattle.check_calls.proofs.Halved.{stop_word, stop_entry, calls_room, calls_rising, call_room}
use Rattle.check_calls.proofs.Halved.{called_none, called_there}
use Rattle.check_calls.proofs.calls.called_ok.Goals as goal

pub item-from-requires-clause-i_bound : goal.item-from-requires-clause-i_bound
item-from-requires-clause-i_bound c = search (rules, stop_word)

pub row_count-n-requires-clause-entry : goal.row_count-n-requires-clause-entry
row_count-n-requires-clause-entry c = search (rules, stop_entry)

pub rows_before-i-requires-clause-n_bound : goal.rows_before-i-requires-clause-n_bound
rows_before-i-requires-clause-n_bound c = search (rules, calls_room)

pub rows_before-i-requires-clause-rising : goal.rows_before-i-requires-clause-rising
rows_before-i-requires-clause-rising c = search (rules, calls_rising)

pub returns-else-i-n : goal.returns-else-i-n
returns-else-i-n c = search (rules, called_none)

pub row_calls-requires-clause-i_bound : goal.row_calls-requires-clause-i_bound
row_calls-requires-clause-i_bound c = search (rules, call_room)

pub returns-then-i-n : goal.returns-then-i-n
returns-then-i-n c = search (rules, called_there)
