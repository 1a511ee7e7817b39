-- `in_range`: each word decides.
use borrow.Author.Rules.{rules}
use Rattle.repository.specs.Sections.{size}
use Rattle.repository.specs.Listed.{indexed, in_range}
use Rattle.repository.proofs.All.{all_over}
use Rattle.check_listing.proofs.range.in_range.Goals as goal

pub returns : goal.returns
unfolding in_range indexed
returns c =
    let w = c.args.tables.now in
    all_over (indexed w c.args.k c.args.limit) (0) (size w c.args.k) _ _ _ c.all.ensures.ran (search rules) (search rules) (λ x t q k. search rules)
