-- `names::slot` meets its contract: the number so far and what is left decide.
-- Assumes nothing.
use Rattle.names.proofs.Slots.{Hashing}
use Rattle.names.proofs.slot.Given as goal

abbrev pub invariant-loop-x : goal.invariant-loop-x
invariant-loop-x l = Hashing l.text l.h l.x-index
