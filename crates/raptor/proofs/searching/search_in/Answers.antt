-- `raptor::searching::search_in` meets its contract: the two halves of the places.
use borrow.Author.Rules.{rules}
use Rattle.raptor.proofs.Placing.{part_length, place_from, place_to}
use Rattle.raptor.proofs.searching.search_in.Goals as goal

pub slice_bounds-origins-end : goal.slice_bounds-origins-end
slice_bounds-origins-end c = search (rules, part_length)

pub search_for-requires-clause-place : goal.search_for-requires-clause-place
search_for-requires-clause-place c = search (rules, place_from)

pub search_for-requires-clause-place_2 : goal.search_for-requires-clause-place_2
search_for-requires-clause-place_2 c = search (rules, place_to)
