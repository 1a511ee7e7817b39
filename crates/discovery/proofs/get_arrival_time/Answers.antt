-- `get_arrival_time`: the trip's row, and the moment in it.
use borrow.Author.Rules.{rules}
use Rattle.repository.proofs.Trips.{arrival_is}
use Rattle.discovery.proofs.get_arrival_time.Goals as goal

pub returns : goal.returns
returns c = search (rules, arrival_is)
