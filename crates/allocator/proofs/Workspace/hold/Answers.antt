-- `Workspace::hold` meets its contract: a section of the words and one of the marks copied.
-- Assumes nothing.
use mathlib.Core.Path.{◌∙◌}
use Prim.Native.Nat.{◌*◌}
use borrow.Author.Rules.{rules}
use native.Mathlib.Omega.{arith}
use Rattle.allocator.specs.Operations.{holding}
use Rattle.allocator.proofs.Part.{part_copied}
use Rattle.allocator.proofs.Operated.{does, does_hold, usable_helds}
use Rattle.allocator.proofs.Workspace.hold.Goals as goal

pub invariant_of-self : goal.invariant_of-self
invariant_of-self c =
    let w = c.args.self.now in
    let a = w.stops in
    let p = c.pages_of-p.result in
    let e = c.copy_within.ensures.after ∙ part_copied a a (3 * a) (2 * a) w.words.now (omega arith) (omega arith) in
    search (rules, usable_helds)

pub invariant_of-self-2 : goal.invariant_of-self-2
invariant_of-self-2 c =
    let w = c.args.self.now in
    let a = w.stops in
    let p = c.pages_of-p.result in
    let e = c.copy_within.ensures.after ∙ part_copied a a (3 * a) (2 * a) w.words.now (omega arith) (omega arith) in
    let f = c.copy_within-2.ensures.after ∙ part_copied 0 p p p w.marks.now (omega arith) (omega arith) in
    record { usable = (does (holding) (search (rules, does_hold)) c.args.self.now.usable).usable }

pub returns : goal.returns
returns c =
    let w = c.args.self.now in
    let a = w.stops in
    let p = c.pages_of-p.result in
    let e = c.copy_within.ensures.after ∙ part_copied a a (3 * a) (2 * a) w.words.now (omega arith) (omega arith) in
    let f = c.copy_within-2.ensures.after ∙ part_copied 0 p p p w.marks.now (omega arith) (omega arith) in
    record { holds = (does (holding) (search (rules, does_hold)) c.args.self.now.usable).holds; same = search rules }
