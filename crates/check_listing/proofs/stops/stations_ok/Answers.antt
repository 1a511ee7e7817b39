-- `stations_ok`: each stop decides.
use borrow.Author.Rules.{rules}
use Rattle.repository.specs.Sections.{stops}
use Rattle.repository.specs.Listed.{station, stations}
use Rattle.repository.proofs.All.{all_over}
use Rattle.check_listing.proofs.stops.stations_ok.Goals as goal

pub returns : goal.returns
unfolding stations
returns c =
    let w = c.args.tables.now in
    all_over (station w) (0) (stops w) _ _ _ c.all.ensures.ran (search rules) (search rules) (λ x t q k. search rules)
