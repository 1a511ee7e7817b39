-- `get_departure_time`: the trip's row, and the moment in it.
use borrow.Author.Rules.{rules}
use Rattle.repository.proofs.Trips.{departure_is}
use Rattle.discovery.proofs.get_departure_time.Goals as goal

pub returns : goal.returns
returns c = search (rules, departure_is)
