-- `raptor::searching::stops_of` meets its contract: a stop from the tables, an area from its places.
use borrow.Author.Rules.{rules}
use Rattle.raptor.proofs.Searched.{stop_known, stop_is, area_is}
use Rattle.raptor.proofs.searching.stops_of.Goals as goal

pub stops_of_stop-requires-clause-s_bound : goal.stops_of_stop-requires-clause-s_bound
stops_of_stop-requires-clause-s_bound c = search (rules, stop_known)

pub returns-in-Stop : goal.returns-in-Stop
returns-in-Stop c = search (rules, stop_is)

pub returns-in-Area : goal.returns-in-Area
returns-in-Area c = search (rules, area_is)
