-- `put_served`: writing the served of the stops that are left ends where writing all does.
use borrow.Author.Rules.{rules}
use Rattle.base.proofs.Below.{entry_below}
use Rattle.discovery.proofs.Counting.{served_next, served_over, tally_moved, tally_end, tally_from, filling_part}
use Rattle.discovery.proofs.Counting.{filling_end, filling_start, left_room}
use Rattle.discovery.proofs.places.put_served.Goals as goal

pub loop-s-init : goal.loop-s-init
loop-s-init c = (search (rules, filling_start), search (rules, tally_from), search rules)

pub put_if_served-m-requires-clause-s_bound : goal.put_if_served-m-requires-clause-s_bound
put_if_served-m-requires-clause-s_bound c = search (rules, entry_below)

pub put_if_served-m-requires-clause-s_in_bounds : goal.put_if_served-m-requires-clause-s_in_bounds
put_if_served-m-requires-clause-s_in_bounds c = search (rules, left_room)

pub loop-s-preserved : goal.loop-s-preserved
loop-s-preserved c = (search (rules, filling_part, served_next), search (rules, tally_moved, served_next), search rules)

pub returns-clause-places_after : goal.returns-clause-places_after
returns-clause-places_after c = search (rules, filling_end, served_over)

pub returns-clause-value : goal.returns-clause-value
returns-clause-value c = search (rules, tally_end, served_over)
