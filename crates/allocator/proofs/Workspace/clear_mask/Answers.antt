-- `Workspace::clear_mask` meets its contract: one section of the marks cleared.
-- Assumes nothing.
use Prim.Native.Nat.{◌+◌, ◌*◌}
use borrow.Author.Rules.{rules}
use native.Mathlib.Omega.{arith}
use Rattle.allocator.specs.Operations.{unmasked}
use Rattle.allocator.proofs.Part.{part_filled}
use Rattle.allocator.proofs.Operated.{does, does_clear_mask}
use Rattle.allocator.proofs.Workspace.clear_mask.Goals as goal

pub invariant_of-self : goal.invariant_of-self
invariant_of-self c =
    let w = c.args.self.now in
    let a = 2 * c.pages_of-a.result in
    let e = part_filled a (a + c.pages_of.result) 0 w.marks.now _ (c.fill.ensures.after (search rules)) (omega arith) (omega arith) in
    record { usable = (does (unmasked c.args.self.now.routes) (search (rules, does_clear_mask)) c.args.self.now.usable).usable }

pub returns : goal.returns
returns c =
    let w = c.args.self.now in
    let a = 2 * c.pages_of-a.result in
    let e = part_filled a (a + c.pages_of.result) 0 w.marks.now _ (c.fill.ensures.after (search rules)) (omega arith) (omega arith) in
    record { holds = (does (unmasked c.args.self.now.routes) (search (rules, does_clear_mask)) c.args.self.now.usable).holds; same = search rules }
