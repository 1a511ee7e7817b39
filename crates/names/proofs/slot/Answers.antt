-- `names::slot` meets its contract: the number so far and what is left decide.
-- Assumes nothing.
use borrow.Author.Rules.{rules}
use Rattle.names.proofs.Slots.{hashing_start, hashing_on, hashing_end, slot_below}
use Rattle.names.proofs.slot.Goals as goal

pub loop-x-init : goal.loop-x-init
loop-x-init c = search (rules, hashing_start)

pub loop-x-preserved : goal.loop-x-preserved
loop-x-preserved c = search (rules, hashing_on)

pub returns-clause-value : goal.returns-clause-value
returns-clause-value c = search (rules, hashing_end)

pub returns-clause-upper_bound : goal.returns-clause-upper_bound
returns-clause-upper_bound c = search (rules, slot_below)
