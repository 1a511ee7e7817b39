-- `ascending_ok`: each call but the first decides.
use borrow.Author.Rules.{rules}
use mathlib.Core.Path.{◌≡◌, sym, ◌∙◌}
use mathlib.Core.Bool.{true}
use mathlib.Core.List.{List}
use Prim.Native.Nat.{ℕ, ◌+◌, ◌≤◌}
use native.Mathlib.Omega.{arith}
use Rattle.std.proofs.lemmas.Iterator.{serves_from_Range}
use Rattle.repository.specs.Sections.{sec, CALL_STARTS}
use Rattle.repository.specs.Listed.{later, ascending}
use Rattle.base.proofs.All.{so_start, so_passes}
use Rattle.repository.proofs.All.{all_over}
use Rattle.check_calls.proofs.Rooms.{row_in}
use Rattle.check_calls.proofs.calls.ascending_ok.Goals as goal

-- no row, so none that falls
no_call : (w : List ℕ) (s : ℕ) {a e : ℕ} → a ≡ sec w CALL_STARTS s → e ≡ sec w CALL_STARTS (s + 1) → e ≤ a → true ≡ ascending w s
unfolding ascending
no_call w s {a} ea ee h = rw (← ea, ← ee) (sym (so_passes (so_start {f = later w} {a = a + 1}) (omega arith)))

pub returns-then-is_empty : goal.returns-then-is_empty
returns-then-is_empty c = c.if-is_empty.true ∙ search (rules, no_call)

pub all-requires-clause-callable : goal.all-requires-clause-callable
all-requires-clause-callable c =
    serves_from_Range (λ x q k. search rules)
    (λ x h g.
    let t = c.requires in
    let one : 1 ≤ x = omega arith in
    search (rules, row_in t.laid.call_starts c.args.s t.s_bound g c.rows_under-rows.ensures.end))

pub returns-else-is_empty : goal.returns-else-is_empty
unfolding ascending
returns-else-is_empty c =
    let w = c.args.tables.now in
    all_over (later w) (sec w CALL_STARTS c.args.s + 1) (sec w CALL_STARTS (c.args.s + 1)) _ _ _ c.all.ensures.ran (search rules)
    (search rules)
    (λ x t q k. search rules)
