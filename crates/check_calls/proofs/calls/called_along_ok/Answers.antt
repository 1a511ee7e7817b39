-- `called_along_ok`: each position decides.
use borrow.Author.Rules.{rules}
use Rattle.repository.specs.Sections.{ROUTE_STOP_STARTS}
use Rattle.repository.specs.NetOf.{count}
use Rattle.repository.specs.Listed.{called, called_along}
use Rattle.repository.proofs.All.{all_over}
use Rattle.check_calls.proofs.calls.called_along_ok.Goals as goal

pub returns : goal.returns
unfolding called_along
returns c =
    let w = c.args.tables.now in
    all_over (called w c.args.r) (0) (count w ROUTE_STOP_STARTS c.args.r) _ _ _ c.all.ensures.ran (search rules) (search rules) (λ x t q k. search rules)
