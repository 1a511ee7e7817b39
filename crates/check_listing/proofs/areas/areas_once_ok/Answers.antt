-- `areas_once_ok`: each area decides.
use borrow.Author.Rules.{rules}
use Rattle.repository.specs.Sections.{areas}
use Rattle.repository.specs.Listed.{area_once, areas_once}
use Rattle.repository.proofs.All.{all_over}
use Rattle.check_listing.proofs.areas.areas_once_ok.Goals as goal

pub returns : goal.returns
unfolding areas_once
returns c =
    let w = c.args.tables.now in
    all_over (area_once w) (0) (areas w) _ _ _ c.all.ensures.ran (search rules) (search rules) (λ x t q k. search rules)
