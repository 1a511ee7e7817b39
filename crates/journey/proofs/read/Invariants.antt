-- `journey::read` meets its contract: the legs that are passed and what is left say what all the bytes are.
-- Assumes nothing.
use Rattle.std.proofs.Common.{◌-◌, length}
use Rattle.journey.proofs.Count.{Passed}
use Rattle.journey.proofs.read.Given as goal

abbrev pub invariant-loop-leg : goal.invariant-loop-leg
invariant-loop-leg l = Passed l.bytes l.legs l.at

abbrev pub decreases-loop-leg : goal.decreases-loop-leg
decreases-loop-leg l = length l.bytes - l.at
