-- `path::backtrack_by` meets its contract: the legs left, put to their places, lead where all lead.
-- Assumes nothing.
use Rattle.std.proofs.Common.{rules}
use Rattle.path.proofs.Behind.{stop_known, fewer}
use Rattle.path.proofs.Writing.{writing_none, found_fits, with_within, leg_fits, put_on, put_all_lem}
use Rattle.path.proofs.backtrack_by.Goals as goal

pub loop-next-init : goal.loop-next-init
loop-next-init c = search (rules, writing_none)

pub parent_at-requires-clause-s_lt_stops : goal.parent_at-requires-clause-s_lt_stops
parent_at-requires-clause-s_lt_stops c = search (rules, stop_known)

pub overflow_add-with : goal.overflow_add-with
overflow_add-with c = record { fits = search (rules, found_fits) }

pub overflow_sub-size : goal.overflow_sub-size
overflow_sub-size c = search (rules, with_within)

pub write_leg-requires : goal.write_leg-requires
write_leg-requires c = search (rules, leg_fits)

pub returns-in_default : goal.returns-in_default
returns-in_default c = search (rules, put_all_lem)

pub loop-next-smaller : goal.loop-next-smaller
loop-next-smaller c = search (rules, fewer)

pub loop-next-preserved : goal.loop-next-preserved
loop-next-preserved c = search (rules, put_on)
