-- `in_place`: of a stop or of an area.
use borrow.Author.Rules.{rules}
use Rattle.model.proofs.Asking.{stop_there, area_there}
use Rattle.judge_paths.proofs.Listed.{at_stop, at_area}
use Rattle.judge_paths.proofs.places.in_place.Goals as goal

pub stops_of_stop-requires-clause-s_bound : goal.stops_of_stop-requires-clause-s_bound
stops_of_stop-requires-clause-s_bound c = search (rules, stop_there)

pub in_area-requires-clause-a_bound : goal.in_area-requires-clause-a_bound
in_area-requires-clause-a_bound c = search (rules, area_there)

pub returns-in-Stop : goal.returns-in-Stop
returns-in-Stop c = search (rules, at_stop)

pub returns-in-Area : goal.returns-in-Area
returns-in-Area c = search (rules, at_area)
