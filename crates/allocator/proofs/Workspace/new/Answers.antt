-- `Workspace::new` meets its contract: three fills of the words and one of the marks leave nothing as it was.
-- Assumes nothing.
use Prim.Native.Nat.{◌+◌, ◌*◌}
use borrow.Author.Rules.{rules}
use native.Mathlib.Omega.{arith}
use Rattle.allocator.proofs.Part.{part_filled}
use Rattle.allocator.proofs.Cleared.{clear_is, clear_tidy}
use Rattle.allocator.proofs.Workspace.new.Goals as goal

pub invariant_of-result : goal.invariant_of-result
invariant_of-result c =
    let a = 4 * c.args.stops in
    let b = a + c.args.routes in
    let e₁ = part_filled 0 a 0 c.args.words.now _ (c.fill.ensures.after (search rules)) (omega arith) (omega arith) in
    let e₂ = part_filled a b _ _ _ (c.fill-2.ensures.after (search rules)) (omega arith) (omega arith) in
    let e₃ = part_filled b (b + 90 * c.args.stops) _ _ _ (c.fill-3.ensures.after (search rules)) (omega arith) (omega arith) in
    let e₄ = part_filled 0 _ _ _ _ (c.fill-4.ensures.after (search rules)) (omega arith) (omega arith) in
    record { usable = record { sized = search rules; tidy = search (rules, clear_tidy) } }

pub returns : goal.returns
returns c =
    let a = 4 * c.args.stops in
    let b = a + c.args.routes in
    let e₁ = part_filled 0 a 0 c.args.words.now _ (c.fill.ensures.after (search rules)) (omega arith) (omega arith) in
    let e₂ = part_filled a b _ _ _ (c.fill-2.ensures.after (search rules)) (omega arith) (omega arith) in
    let e₃ = part_filled b (b + 90 * c.args.stops) _ _ _ (c.fill-3.ensures.after (search rules)) (omega arith) (omega arith) in
    let e₄ = part_filled 0 _ _ _ _ (c.fill-4.ensures.after (search rules)) (omega arith) (omega arith) in
    record { holds = search (rules, clear_is); over = search rules }
