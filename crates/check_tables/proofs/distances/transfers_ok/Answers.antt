-- `transfers_ok`: each transfer decides.
use borrow.Author.Rules.{rules}
use Rattle.repository.specs.Sections.{rows, TRANSFERS, TRANSFER_WORDS}
use Rattle.check_tables.specs.Distances.{transfer_fit}
use Rattle.repository.proofs.All.{all_over}
use Rattle.check_tables.proofs.distances.transfers_ok.Goals as goal

pub returns : goal.returns
returns c =
    let w = c.args.tables.now in
    all_over (transfer_fit w) (0) (rows w TRANSFERS TRANSFER_WORDS) _ _ _ c.all.ensures.ran (search rules) (search rules) (λ x t q k. search rules)
