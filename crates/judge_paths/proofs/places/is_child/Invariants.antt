-- `is_child`: the stops named that are left decide.
use lib.ListN.{drop}
use Rattle.repository.specs.NetOf.{net_of}
use Rattle.handheld.specs.Any.{Sought}
use Rattle.judge_paths.specs.Areas.{is_child, child_of}
use Rattle.judge_paths.proofs.places.is_child.Given as goal

abbrev pub invariant-loop-p : goal.invariant-loop-p
invariant-loop-p l = Sought (is_child (net_of l.tables) l.s) (child_of (net_of l.tables) l.s ((net_of l.tables).area_stops l.a)) (drop l.p-index l.p-items)
