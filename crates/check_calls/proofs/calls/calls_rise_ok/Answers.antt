-- `calls_rise_ok`: each stop decides.
use borrow.Author.Rules.{rules}
use Rattle.repository.specs.Sections.{stops}
use Rattle.repository.specs.Listed.{ascending, calls_rise}
use Rattle.repository.proofs.All.{all_over}
use Rattle.check_calls.proofs.calls.calls_rise_ok.Goals as goal

pub returns : goal.returns
unfolding calls_rise
returns c =
    let w = c.args.tables.now in
    all_over (ascending w) (0) (stops w) _ _ _ c.all.ensures.ran (search rules) (search rules) (λ x t q k. search rules)
