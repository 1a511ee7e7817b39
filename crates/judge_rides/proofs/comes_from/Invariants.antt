-- `comes_from`: the positions that are left decide.
use Prim.Native.Nat.{◌-◌}
use Rattle.model.specs.Lists.{upto}
use Rattle.repository.specs.NetOf.{net_of}
use Rattle.handheld.specs.Any.{Sought}
use Rattle.handheld.specs.Fitting.{comes_at, comes_from}
use Rattle.judge_rides.proofs.comes_from.Given as goal

abbrev pub invariant-loop-a : goal.invariant-loop-a
invariant-loop-a l = Sought (comes_at (net_of l.tables) l.r l.v l.g) (comes_from (net_of l.tables) l.r l.v l.g l.from) (upto (l.a-end - l.a) l.a)
