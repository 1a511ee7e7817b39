-- `calls_hold_ok`: each stop decides.
use borrow.Author.Rules.{rules}
use Rattle.repository.specs.Sections.{stops, CALL_STARTS}
use Rattle.repository.specs.Listed.{under, call, calls_hold}
use Rattle.repository.proofs.All.{all_over}
use Rattle.check_calls.proofs.calls.calls_hold_ok.Goals as goal

pub returns : goal.returns
unfolding calls_hold
returns c =
    let w = c.args.tables.now in
    all_over (under w CALL_STARTS (call w)) (0) (stops w) _ _ _ c.all.ensures.ran (search rules) (search rules) (λ x t q k. search rules)
