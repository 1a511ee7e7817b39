-- `Workspace::clear_marks` meets its contract: one section of the marks cleared.
-- Assumes nothing.
use borrow.Author.Rules.{rules}
use native.Mathlib.Omega.{arith}
use Rattle.allocator.specs.Operations.{unmarked}
use Rattle.allocator.proofs.Part.{part_filled}
use Rattle.allocator.proofs.Operated.{does, does_clear_marks}
use Rattle.allocator.proofs.Workspace.clear_marks.Goals as goal

pub invariant_of-self : goal.invariant_of-self
invariant_of-self c =
    let e = part_filled 0 _ _ _ _ (c.fill.ensures.after (search rules)) (omega arith) (omega arith) in
    record { usable = (does (unmarked c.args.self.now.stops) (search (rules, does_clear_marks)) c.args.self.now.usable).usable }

pub returns : goal.returns
returns c =
    let e = part_filled 0 _ _ _ _ (c.fill.ensures.after (search rules)) (omega arith) (omega arith) in
    record { holds = (does (unmarked c.args.self.now.stops) (search (rules, does_clear_marks)) c.args.self.now.usable).holds; same = search rules }
