-- `calls_of_ok`: each call decides.
use borrow.Author.Rules.{rules}
use Prim.Native.Nat.{◌+◌}
use Rattle.std.proofs.lemmas.Iterator.{serves_from_Range}
use Rattle.repository.specs.Sections.{sec, CALL_STARTS}
use Rattle.repository.specs.Listed.{under, call}
use Rattle.check_calls.proofs.Rooms.{row_in}
use Rattle.repository.proofs.All.{all_over}
use Rattle.check_calls.proofs.calls.calls_of_ok.Goals as goal

pub all-requires-clause-callable : goal.all-requires-clause-callable
all-requires-clause-callable c = serves_from_Range (λ x q k. search rules) (λ x h g. search (rules, row_in))

pub returns : goal.returns
unfolding under
returns c =
    let w = c.args.tables.now in
    all_over (call w c.args.s) (sec w CALL_STARTS c.args.s) (sec w CALL_STARTS (c.args.s + 1)) _ _ _ c.all.ensures.ran (search rules) (search rules) (λ x t q k. search rules)
