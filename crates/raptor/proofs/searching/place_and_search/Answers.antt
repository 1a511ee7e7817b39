-- `raptor::searching::place_and_search` meets its contract: the places written, then the search.
use borrow.Author.Rules.{rules}
use Rattle.raptor.proofs.Placing.{from_there, to_there, places_written, stops_most, from_fits, to_fits}
use Rattle.raptor.proofs.Searched.{posed_accepted, posed_stops}
use Rattle.raptor.proofs.searching.place_and_search.Goals as goal

pub write_places-sizes-requires-clause-accepted : goal.write_places-sizes-requires-clause-accepted
write_places-sizes-requires-clause-accepted c = search (rules, posed_accepted)

pub write_places-sizes-requires-clause-stops_value : goal.write_places-sizes-requires-clause-stops_value
write_places-sizes-requires-clause-stops_value c = search (rules, posed_stops)

pub write_places-sizes-requires-clause-from_value : goal.write_places-sizes-requires-clause-from_value
write_places-sizes-requires-clause-from_value c = search (rules, from_there)

pub write_places-sizes-requires-clause-to_value : goal.write_places-sizes-requires-clause-to_value
write_places-sizes-requires-clause-to_value c = search (rules, to_there)

pub search_in-requires-clause-written : goal.search_in-requires-clause-written
search_in-requires-clause-written c = search (rules, places_written)

pub search_in-requires-clause-stops_bound : goal.search_in-requires-clause-stops_bound
search_in-requires-clause-stops_bound c = search (rules, stops_most)

pub search_in-requires-clause-origins_le_stops : goal.search_in-requires-clause-origins_le_stops
search_in-requires-clause-origins_le_stops c = search (rules, from_fits)

pub search_in-requires-clause-goals_le_stops : goal.search_in-requires-clause-goals_le_stops
search_in-requires-clause-goals_le_stops c = search (rules, to_fits)
