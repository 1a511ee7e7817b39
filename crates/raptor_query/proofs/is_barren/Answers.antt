-- `raptor_query::is_barren` meets its contract: an area is barren where it has no served stop.
use borrow.Author.Rules.{rules}
use Rattle.model.proofs.Asking.{area_there}
use Rattle.raptor_query.proofs.Places.{stop_not_barren, area_barren}
use Rattle.raptor_query.proofs.is_barren.Goals as goal

pub area_size-requires-clause-a_bound : goal.area_size-requires-clause-a_bound
area_size-requires-clause-a_bound c = search (rules, area_there)

pub returns-in-Stop : goal.returns-in-Stop
returns-in-Stop c = search (rules, stop_not_barren)

pub returns-in-Area : goal.returns-in-Area
returns-in-Area c = search (rules, area_barren)
