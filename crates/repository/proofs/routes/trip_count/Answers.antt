-- `trip_count`: the starts of the times have one entry more.
use borrow.Author.Rules.{rules}
use Rattle.repository.specs.Rows.{trip_count}
use Rattle.repository.proofs.routes.trip_count.Goals as goal

pub returns : goal.returns
unfolding trip_count
returns c = search rules
