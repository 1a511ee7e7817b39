-- `own_or_itself`: a list of no entries is empty.
use borrow.Author.Rules.{rules}
use Rattle.discovery.proofs.Stations.{itself, own_ones}
use Rattle.discovery.proofs.places.own_or_itself.Goals as goal

pub returns-then-own-eq0 : goal.returns-then-own-eq0
returns-then-own-eq0 c = search (rules, itself)

pub returns : goal.returns
returns c = search (rules, own_ones)
