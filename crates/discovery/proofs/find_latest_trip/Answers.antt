-- `find_latest_trip`: the place before the one that was found.
use borrow.Author.Rules.{rules}
use Rattle.discovery.proofs.Latest.{latest_at}
use Rattle.discovery.proofs.find_latest_trip.Goals as goal

pub returns : goal.returns
returns c = search (rules, latest_at)
