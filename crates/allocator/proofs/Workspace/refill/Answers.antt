-- `Workspace::refill` meets its contract: by the mode: a section filled, or nothing done.
-- Assumes nothing.
use Prim.Native.Nat.{◌+◌, ◌*◌}
use borrow.Author.Rules.{rules}
use native.Mathlib.Omega.{arith}
use Rattle.allocator.specs.Operations.{refreshed}
use Rattle.allocator.proofs.Part.{part_filled}
use Rattle.allocator.proofs.Operated.{does, does_refill, does_refill_not}
use Rattle.allocator.proofs.Workspace.refill.Goals as goal

pub invariant_of-self : goal.invariant_of-self
invariant_of-self c =
    let w = c.args.self.now in
    let a = 4 * w.stops in
    let e = part_filled a (a + w.routes) _ w.words.now _ (c.fill.ensures.after (search rules)) (omega arith) (omega arith) in
    record { usable = (does (refreshed c.args.mode c.args.self.now.routes c.args.d) (search (rules, does_refill)) c.args.self.now.usable).usable }

pub returns-in-Source : goal.returns-in-Source
returns-in-Source c =
    record { holds = (does (refreshed c.args.mode c.args.self.now.routes c.args.d) (search (rules, does_refill_not)) c.args.self.now.usable).holds; same = search rules }

pub returns-in-Rescan : goal.returns-in-Rescan
returns-in-Rescan c =
    let w = c.args.self.now in
    let a = 4 * w.stops in
    let e = part_filled a (a + w.routes) _ w.words.now _ (c.fill.ensures.after (search rules)) (omega arith) (omega arith) in
    record { holds = (does (refreshed c.args.mode c.args.self.now.routes c.args.d) (search (rules, does_refill)) c.args.self.now.usable).holds; same = search rules }
