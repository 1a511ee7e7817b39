-- `path::backtrack_by` meets its contract: the legs left, put to their places, lead where all lead.
-- Assumes nothing.
use lib.ListN.{length}
use Rattle.model.specs.Back.{back}
use Rattle.allocator.specs.Layout.{parents_of}
use Rattle.path.proofs.Writing.{Writing}
use Rattle.path.proofs.backtrack_by.Given as goal

abbrev pub invariant-loop-next : goal.invariant-loop-next
invariant-loop-next l = Writing l.d l.stops (parents_of l.stops l.routes l.words) l.k l.s l.size l.initial.journey l.at.round l.at.stop l.found l.journey

abbrev pub decreases-loop-next : goal.decreases-loop-next
decreases-loop-next l = length (back l.d l.stops (parents_of l.stops l.routes l.words) l.stops l.at.round l.at.stop)
