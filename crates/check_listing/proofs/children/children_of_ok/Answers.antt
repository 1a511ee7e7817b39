-- `children_of_ok`: each child decides.
use borrow.Author.Rules.{rules}
use Prim.Native.Nat.{◌+◌}
use Rattle.std.proofs.lemmas.Iterator.{serves_from_Range}
use Rattle.repository.specs.Sections.{sec, CHILD_STARTS}
use Rattle.repository.specs.Listed.{under, child}
use Rattle.check_calls.proofs.Rooms.{row_in}
use Rattle.repository.proofs.All.{all_over}
use Rattle.check_listing.proofs.children.children_of_ok.Goals as goal

pub all-requires-clause-callable : goal.all-requires-clause-callable
all-requires-clause-callable c = serves_from_Range (λ x q k. search rules) (λ x h g. search (rules, row_in))

pub returns : goal.returns
unfolding under
returns c =
    let w = c.args.tables.now in
    all_over (child w c.args.p) (sec w CHILD_STARTS c.args.p) (sec w CHILD_STARTS (c.args.p + 1)) _ _ _ c.all.ensures.ran (search rules) (search rules) (λ x t q k. search rules)
