-- `raptor::searching::search_for` meets its contract: each direction starts where it is asked to.
use borrow.Author.Rules.{rules}
use Rattle.raptor.proofs.Placing.{asked_moment}
use Rattle.raptor.proofs.Searched.{posed_accepted, place_below, departing_is, arriving_is}
use Rattle.raptor.proofs.searching.search_for.Goals as goal

pub stops_of-left-requires-clause-accepted : goal.stops_of-left-requires-clause-accepted
stops_of-left-requires-clause-accepted c = search (rules, posed_accepted)

pub stops_of-reached-requires-clause-accepted : goal.stops_of-reached-requires-clause-accepted
stops_of-reached-requires-clause-accepted c = search (rules, posed_accepted)

pub search-requires-clause-below : goal.search-requires-clause-below
search-requires-clause-below c = search (rules, place_below)

pub search-requires-clause-below_2 : goal.search-requires-clause-below_2
search-requires-clause-below_2 c = search (rules, place_below)

pub search-requires-clause-moment_nonzero : goal.search-requires-clause-moment_nonzero
search-requires-clause-moment_nonzero c = search (rules, asked_moment)

pub search-requires-in-Arrival-clause-below : goal.search-requires-in-Arrival-clause-below
search-requires-in-Arrival-clause-below c = search (rules, place_below)

pub search-requires-in-Arrival-clause-below_2 : goal.search-requires-in-Arrival-clause-below_2
search-requires-in-Arrival-clause-below_2 c = search (rules, place_below)

pub search-requires-in-Arrival-clause-moment_nonzero : goal.search-requires-in-Arrival-clause-moment_nonzero
search-requires-in-Arrival-clause-moment_nonzero c = search (rules, asked_moment)

pub returns-in-Departure-clause-result_after : goal.returns-in-Departure-clause-result_after
returns-in-Departure-clause-result_after c = search (rules, departing_is)

pub returns-in-Arrival-clause-result_after : goal.returns-in-Arrival-clause-result_after
returns-in-Arrival-clause-result_after c = search (rules, arriving_is)
