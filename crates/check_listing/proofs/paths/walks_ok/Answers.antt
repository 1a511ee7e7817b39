-- `walks_ok`: each walk decides.
use borrow.Author.Rules.{rules}
use Rattle.repository.specs.Sections.{rows, WALKS, WALK_WORDS}
use Rattle.repository.specs.Listed.{walk_in, walks}
use Rattle.repository.proofs.All.{all_over}
use Rattle.check_listing.proofs.paths.walks_ok.Goals as goal

pub returns : goal.returns
unfolding walks walk_in
returns c =
    let w = c.args.tables.now in
    all_over (walk_in w) (0) (rows w WALKS WALK_WORDS) _ _ _ c.all.ensures.ran (search rules) (search rules) (λ x t q k. search rules)
