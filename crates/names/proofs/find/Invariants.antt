-- `names::find` meets its contract: the names of one slot are looked at, the last one first.
-- Assumes nothing.
use Rattle.csv_text.specs.Part.{part}
use Rattle.names.proofs.Chasing.{Chase}
use Rattle.names.proofs.find.Given as goal

abbrev pub invariant-loop-p : goal.invariant-loop-p
invariant-loop-p l = Chase l.first l.second l.shelf l.book (part l.a l.e l.second) l.p

abbrev pub decreases-loop-p : goal.decreases-loop-p
decreases-loop-p l = l.p
