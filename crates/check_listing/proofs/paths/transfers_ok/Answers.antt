-- `transfers_ok`: each stop decides.
use borrow.Author.Rules.{rules}
use Rattle.repository.specs.Sections.{stops, TRANSFER_STARTS}
use Rattle.repository.specs.Listed.{under, transfer, transfers}
use Rattle.repository.proofs.All.{all_over}
use Rattle.check_listing.proofs.paths.transfers_ok.Goals as goal

pub returns : goal.returns
unfolding transfers
returns c =
    let w = c.args.tables.now in
    all_over (under w TRANSFER_STARTS (transfer w)) (0) (stops w) _ _ _ c.all.ensures.ran (search rules) (search rules) (λ x t q k. search rules)
