-- `raptor_query::write_place` meets its contract: the stops of an area, or zeros.
use borrow.Author.Rules.{rules}
use Rattle.model.proofs.Asking.{area_there}
use Rattle.raptor_query.proofs.Places.{stop_written, stop_none, area_written, area_all}
use Rattle.raptor_query.proofs.write_place.Goals as goal

pub returns-in-Stop-clause-half_after : goal.returns-in-Stop-clause-half_after
returns-in-Stop-clause-half_after c = search (rules, stop_written)

pub returns-in-Stop-clause-value : goal.returns-in-Stop-clause-value
returns-in-Stop-clause-value c = search (rules, stop_none)

pub area_stops-requires-clause-a_bound : goal.area_stops-requires-clause-a_bound
area_stops-requires-clause-a_bound c = search (rules, area_there)

pub returns-in-Area-clause-half_after : goal.returns-in-Area-clause-half_after
returns-in-Area-clause-half_after c = search (rules, area_written)

pub returns-in-Area-clause-value : goal.returns-in-Area-clause-value
returns-in-Area-clause-value c = search (rules, area_all)
