-- `children_name_ok`: each station decides.
use borrow.Author.Rules.{rules}
use Rattle.repository.specs.Sections.{stops, CHILD_STARTS}
use Rattle.repository.specs.Listed.{under, child, children_name}
use Rattle.repository.proofs.All.{all_over}
use Rattle.check_listing.proofs.children.children_name_ok.Goals as goal

pub returns : goal.returns
unfolding children_name
returns c =
    let w = c.args.tables.now in
    all_over (under w CHILD_STARTS (child w)) (0) (stops w) _ _ _ c.all.ensures.ran (search rules) (search rules) (λ x t q k. search rules)
