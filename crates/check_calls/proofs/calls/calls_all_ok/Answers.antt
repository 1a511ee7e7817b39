-- `calls_all_ok`: each route decides.
use borrow.Author.Rules.{rules}
use Rattle.repository.specs.Sections.{routes}
use Rattle.repository.specs.Listed.{called_along, calls_all}
use Rattle.repository.proofs.All.{all_over}
use Rattle.check_calls.proofs.calls.calls_all_ok.Goals as goal

pub returns : goal.returns
unfolding calls_all
returns c =
    let w = c.args.tables.now in
    all_over (called_along w) (0) (routes w) _ _ _ c.all.ensures.ran (search rules) (search rules) (λ x t q k. search rules)
