-- `stop_list_ok`: each place decides.
use borrow.Author.Rules.{rules}
use Rattle.repository.specs.Sections.{stops}
use Rattle.repository.specs.Listed.{in_place, stop_list}
use Rattle.repository.proofs.All.{all_over}
use Rattle.check_listing.proofs.stops.stop_list_ok.Goals as goal

pub returns : goal.returns
unfolding stop_list in_place
returns c =
    let w = c.args.tables.now in
    all_over (in_place w) (0) (stops w) _ _ _ c.all.ensures.ran (search rules) (search rules) (λ x t q k. search rules)
