-- `Workspace::activate_by` meets its contract: by the test: one word and one mark, or nothing.
-- Assumes nothing.
use borrow.Author.Rules.{rules}
use native.Mathlib.Omega.{arith}
use Rattle.allocator.specs.Operations.{activated}
use Rattle.allocator.proofs.DoesWords.{does_active}
use Rattle.allocator.proofs.Operated.{does, usable_by, does_activate, does_activate_not}
use Rattle.allocator.proofs.Workspace.activate_by.Goals as goal

pub invariant_of-self : goal.invariant_of-self
invariant_of-self c =
    let w = c.args.self.now in
    record { usable = usable_by (does_active w.stops w.routes w.words.now w.marks.now w.usable.sized c.args.r c.args.p (omega arith)) w.usable }

pub invariant_of-self-then-is_sooner : goal.invariant_of-self-then-is_sooner
invariant_of-self-then-is_sooner c =
    record { usable = (does (activated c.args.d c.args.r c.args.p) (search (rules, does_activate)) c.args.self.now.usable).usable }

pub returns-then-is_sooner : goal.returns-then-is_sooner
returns-then-is_sooner c =
    record { holds = (does (activated c.args.d c.args.r c.args.p) (search (rules, does_activate)) c.args.self.now.usable).holds; same = search rules }

pub returns-else-is_sooner : goal.returns-else-is_sooner
returns-else-is_sooner c =
    record { holds = (does (activated c.args.d c.args.r c.args.p) (search (rules, does_activate_not)) c.args.self.now.usable).holds; same = search rules }
