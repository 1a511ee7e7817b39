-- `passed`: some call decides.
use borrow.Author.Rules.{rules}
use Prim.Native.Nat.{◌+◌}
use Rattle.std.proofs.lemmas.Iterator.{serves_from_Range}
use Rattle.repository.specs.Sections.{sec, CALL_STARTS}
use Rattle.repository.specs.Listed.{running, passes}
use Rattle.check_calls.proofs.Entries.{call_room, call_runs}
use Rattle.repository.proofs.All.{some_over}
use Rattle.check_calls.proofs.served.passed.Goals as goal

pub any-requires-clause-callable : goal.any-requires-clause-callable
any-requires-clause-callable c = serves_from_Range (λ x q k. search rules) (λ x h g.
    let t = c.requires in
    let rows = c.rows_under.ensures in
    search (rules, call_room t.laid c.args.s t.s_bound rows.end g, call_runs t.laid c.args.s t.tables_value t.s_bound rows.start rows.end h g))

pub returns : goal.returns
unfolding passes
returns c =
    let w = c.args.tables.now in
    some_over (running w) (sec w CALL_STARTS c.args.s) (sec w CALL_STARTS (c.args.s + 1)) _ _ _ c.any.ensures.ran (search rules) (search rules) (λ x t q k. search rules)
