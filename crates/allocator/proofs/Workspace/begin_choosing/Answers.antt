-- `Workspace::begin_choosing` meets its contract: its two calls, one after the other.
-- Assumes nothing.
use Rattle.allocator.proofs.Operated.{unmasked_after}
use Rattle.allocator.proofs.Becoming.{same_then}
use Rattle.allocator.proofs.Workspace.begin_choosing.Goals as goal

pub returns : goal.returns
returns c =
    let p = c.refill.ensures in
    let q = c.clear_mask.ensures in
    record { holds = unmasked_after p.same.routes_same q.holds p.holds; same = same_then p.same q.same }
