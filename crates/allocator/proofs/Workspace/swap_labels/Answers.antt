-- `Workspace::swap_labels` meets its contract: one section copied, one filled.
-- Assumes nothing.
use mathlib.Core.Path.{◌∙◌}
use Prim.Native.Nat.{◌*◌}
use borrow.Author.Rules.{rules}
use native.Mathlib.Omega.{arith}
use Rattle.allocator.specs.Operations.{swapped}
use Rattle.allocator.proofs.Part.{part_filled, part_copied}
use Rattle.allocator.proofs.Operated.{does, does_swap, usable_prevs}
use Rattle.allocator.proofs.Workspace.swap_labels.Goals as goal

pub invariant_of-self : goal.invariant_of-self
invariant_of-self c =
    let w = c.args.self.now in
    let a = c.args.self.now.stops in
    let e = c.copy_within.ensures.after ∙ part_copied a a 0 (2 * a) w.words.now (omega arith) (omega arith) in
    search (rules, usable_prevs)

pub invariant_of-self-2 : goal.invariant_of-self-2
invariant_of-self-2 c =
    let w = c.args.self.now in
    let a = c.args.self.now.stops in
    let e = c.copy_within.ensures.after ∙ part_copied a a 0 (2 * a) w.words.now (omega arith) (omega arith) in
    let f = part_filled a (2 * a) 0 c.copy_within.new.self _ (c.fill.ensures.after (search rules)) (omega arith) (omega arith) in
    record { usable = (does (swapped c.args.self.now.stops) (search (rules, does_swap)) c.args.self.now.usable).usable }

pub returns : goal.returns
returns c =
    let w = c.args.self.now in
    let a = c.args.self.now.stops in
    let e = c.copy_within.ensures.after ∙ part_copied a a 0 (2 * a) w.words.now (omega arith) (omega arith) in
    let f = part_filled a (2 * a) 0 c.copy_within.new.self _ (c.fill.ensures.after (search rules)) (omega arith) (omega arith) in
    record { holds = (does (swapped c.args.self.now.stops) (search (rules, does_swap)) c.args.self.now.usable).holds; same = search rules }
