-- `numbers::decimal` meets its contract: the value so far and what is left say what all the digits are.
-- Assumes nothing.
use Rattle.numbers.proofs.Reading.{Reads}
use Rattle.numbers.proofs.decimal.Given as goal

abbrev pub invariant-loop-x : goal.invariant-loop-x
invariant-loop-x l = Reads l.text l.v l.x-index
