-- What a caller gives and may know: the way back from a target that a search reached is traced, and it has a leg.
-- Assumes nothing.
use Prim.Native.Nat.{ℕ, ◌<◌}
use mathlib.Core.List.{List}
use Rattle.std.specs.Prelude.{Option}
use native.Mathlib.Omega.{arith}
use lib.ListN.{length}
use Rattle.model.specs.declared.Direction.{Direction}
use Rattle.model.specs.declared.Leg.{Leg}
use Rattle.model.specs.declared.Target.{Target}
use Rattle.model.specs.Back.{back, Way, ends, leads}
use Rattle.model.specs.State.{Task}
use Rattle.model.specs.Tables.{Net}
use Rattle.model.proofs.Search.{Reached}
use Rattle.model.proofs.Way.{way_is}
use Rattle.path.specs.Traced.{Traced}

pub reached_traced : (n : Net) (q : Task) {k : ℕ} {w : List (Option Leg)} {aimed : Target} → Reached n q k w aimed
    → Traced q.direction n.stops w aimed.round aimed.stop
reached_traced n q h = record { legs = h.good.legs; way = h.good.way; short = h.short }

-- so 11, "a chosen stop but no leg", is never given
pub some_leg : {d : Direction} {stops : ℕ} {w : List (Option Leg)} {k s : ℕ} → Traced d stops w k s
    → 0 < length (back d stops w stops k s)
some_leg {d} {stops} {w} t = rw (way_is d stops w t.way stops t.short) (go t.way)
  where
    go : {k s : ℕ} {gs : List Leg} → Way d stops w k s gs → 0 < length gs
    go (ends i e o) = omega arith
    go (leads i e o b) = omega arith
