-- `stop_time`: the two words of the row.
use borrow.Author.Rules.{rules}
use Rattle.repository.proofs.Trips.{arrival_is, departure_is}
use Rattle.check_times.proofs.stop_time.Goals as goal

pub returns-clause-arrival_value : goal.returns-clause-arrival_value
returns-clause-arrival_value c = search (rules, arrival_is)

pub returns-clause-departure_value : goal.returns-clause-departure_value
returns-clause-departure_value c = search (rules, departure_is)
