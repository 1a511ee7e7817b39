-- `standings_ok`: each trip decides.
use borrow.Author.Rules.{rules}
use Rattle.repository.specs.Sections.{trips}
use Rattle.repository.specs.Listed.{standing, standings}
use Rattle.repository.proofs.All.{all_over}
use Rattle.check_listing.proofs.standing.standings_ok.Goals as goal

pub returns : goal.returns
unfolding standings
returns c =
    let w = c.args.tables.now in
    all_over (standing w) (0) (trips w) _ _ _ c.all.ensures.ran (search rules) (search rules) (λ x t q k. search rules)
