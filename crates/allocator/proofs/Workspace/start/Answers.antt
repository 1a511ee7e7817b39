-- `Workspace::start` meets its contract: one word and one mark.
-- Assumes nothing.
use borrow.Author.Rules.{rules}
use native.Mathlib.Omega.{arith}
use Rattle.allocator.specs.Operations.{started}
use Rattle.allocator.proofs.DoesWords.{does_curr}
use Rattle.allocator.proofs.Operated.{does, usable_by, does_start}
use Rattle.allocator.proofs.Workspace.start.Goals as goal

pub invariant_of-self : goal.invariant_of-self
invariant_of-self c =
    let w = c.args.self.now in
    record { usable = usable_by (does_curr w.stops w.routes w.words.now w.marks.now w.usable.sized c.args.s c.args.t.0 (omega arith)) w.usable }

pub invariant_of-self-2 : goal.invariant_of-self-2
invariant_of-self-2 c =
    record { usable = (does (started c.args.s c.args.t.0) (search (rules, does_start)) c.args.self.now.usable).usable }

pub returns : goal.returns
returns c =
    record { holds = (does (started c.args.s c.args.t.0) (search (rules, does_start)) c.args.self.now.usable).holds; same = search rules }
