-- `children_all_ok`: each stop decides.
use borrow.Author.Rules.{rules}
use Rattle.repository.specs.Sections.{stops}
use Rattle.repository.specs.Listed.{of_station, children_all}
use Rattle.repository.proofs.All.{all_over}
use Rattle.check_listing.proofs.children.children_all_ok.Goals as goal

pub returns : goal.returns
unfolding children_all
returns c =
    let w = c.args.tables.now in
    all_over (of_station w) (0) (stops w) _ _ _ c.all.ensures.ran (search rules) (search rules) (λ x t q k. search rules)
