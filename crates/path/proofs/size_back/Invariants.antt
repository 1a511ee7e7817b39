-- `path::size_back` meets its contract: the bytes counted and those of the legs left are the whole.
-- Assumes nothing.
use lib.ListN.{length}
use Rattle.model.specs.Back.{back}
use Rattle.allocator.specs.Layout.{parents_of}
use Rattle.path.proofs.Counted.{Counted}
use Rattle.path.proofs.size_back.Given as goal

abbrev pub invariant-loop-next : goal.invariant-loop-next
invariant-loop-next l = Counted l.d l.stops (parents_of l.stops l.routes l.words) l.k l.s l.at.round l.at.stop l.size

abbrev pub decreases-loop-next : goal.decreases-loop-next
decreases-loop-next l = length (back l.d l.stops (parents_of l.stops l.routes l.words) l.stops l.at.round l.at.stop)
