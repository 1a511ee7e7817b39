-- `Workspace::store` meets its contract: two labels, a row of the parents and a mark.
-- Assumes nothing.
use Prim.Native.Nat.{◌+◌, ◌*◌}
use borrow.Author.Rules.{rules}
use native.Mathlib.Omega.{arith}
use lib.ListN.{length-set, set}
use Rattle.allocator.specs.Operations.{stored}
use Rattle.allocator.proofs.DoesWords.{does_curr, does_best}
use Rattle.allocator.proofs.Operated.{does, usable_by, does_store, usable_parent}
use Rattle.allocator.proofs.Workspace.store.Goals as goal

pub bounds-self-b : goal.bounds-self-b
bounds-self-b c = simp length-set (omega arith)

pub put_leg-requires : goal.put_leg-requires
put_leg-requires c = simp length-set (omega arith)

pub invariant_of-self : goal.invariant_of-self
invariant_of-self c =
    let w = c.args.self.now in
    let o = c.args.offer in
    record { usable = usable_by (does_curr w.stops w.routes w.words.now w.marks.now w.usable.sized o.stop o.moment.0 (omega arith)) w.usable }

pub invariant_of-self-2 : goal.invariant_of-self-2
invariant_of-self-2 c =
    let w = c.args.self.now in
    let o = c.args.offer in
    let u = usable_by (does_curr w.stops w.routes w.words.now w.marks.now w.usable.sized o.stop o.moment.0 (omega arith)) w.usable in
    record { usable = usable_by (does_best w.stops w.routes (set w.words.now (w.stops + o.stop) o.moment.0) w.marks.now u.sized o.stop o.moment.0 (omega arith)) u }

pub invariant_of-self-3 : goal.invariant_of-self-3
invariant_of-self-3 c = search (rules, usable_parent)

pub invariant_of-self-4 : goal.invariant_of-self-4
invariant_of-self-4 c =
    record { usable = (does (stored (c.args.k * c.args.self.now.stops) c.args.offer.stop c.args.offer.moment.0 c.args.offer.leg) (search (rules, does_store)) c.args.self.now.usable).usable }

pub returns : goal.returns
returns c =
    record { holds = (does (stored (c.args.k * c.args.self.now.stops) c.args.offer.stop c.args.offer.moment.0 c.args.offer.leg) (search (rules, does_store)) c.args.self.now.usable).holds; same = search rules }
