-- `served_ok`: each stop decides.
use borrow.Author.Rules.{rules}
use Rattle.repository.specs.Sections.{stops}
use Rattle.repository.specs.Listed.{served_mark, served}
use Rattle.repository.proofs.All.{all_over}
use Rattle.check_calls.proofs.served.served_ok.Goals as goal

pub returns : goal.returns
unfolding served
returns c =
    let w = c.args.tables.now in
    all_over (served_mark w) (0) (stops w) _ _ _ c.all.ensures.ran (search rules) (search rules) (λ x t q k. search rules)
