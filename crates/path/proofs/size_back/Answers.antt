-- `path::size_back` meets its contract: the bytes counted and those of the legs left are the whole.
-- Assumes nothing.
use Rattle.std.proofs.Common.{rules}
use Rattle.path.proofs.Behind.{stop_known, fewer}
use Rattle.path.proofs.Counted.{counted_none, counted_on, counted_all, size_fits}
use Rattle.path.proofs.size_back.Goals as goal

pub loop-next-init : goal.loop-next-init
loop-next-init c = search (rules, counted_none)

pub parent_at-requires-clause-s_lt_stops : goal.parent_at-requires-clause-s_lt_stops
parent_at-requires-clause-s_lt_stops c = search (rules, stop_known)

pub overflow_add-size : goal.overflow_add-size
overflow_add-size c = record { fits = search (rules, size_fits) }

pub loop-next-smaller : goal.loop-next-smaller
loop-next-smaller c = search (rules, fewer)

pub loop-next-preserved : goal.loop-next-preserved
loop-next-preserved c = search (rules, counted_on)

pub returns-in_default : goal.returns-in_default
returns-in_default c = search (rules, counted_all)
