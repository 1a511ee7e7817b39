-- `area_stops`: writing the stops that are left ends where writing all does, on places that were cleared.
use borrow.Author.Rules.{rules}
use Rattle.discovery.proofs.Counting.{tally_moved, tally_end, filling_part, filling_end}
use Rattle.discovery.proofs.Areas.{named_known, children_stops, rest_part, rest_over, area_tally, area_filling}
use Rattle.discovery.proofs.Areas.{part_room, area_placed}
use Rattle.discovery.proofs.places.area_stops.Goals as goal

pub loop-s-init : goal.loop-s-init
loop-s-init c = (search (rules, area_filling), search (rules, area_tally), search rules)

pub children-children-requires : goal.children-children-requires
children-children-requires c = search (rules, named_known)

pub put_served-k-requires-clause-below : goal.put_served-k-requires-clause-below
put_served-k-requires-clause-below c = search (rules, children_stops, named_known)

pub put_served-k-requires-clause-stops_in_bounds : goal.put_served-k-requires-clause-stops_in_bounds
put_served-k-requires-clause-stops_in_bounds c = search (rules, part_room)

pub loop-s-preserved : goal.loop-s-preserved
loop-s-preserved c = (search (rules, filling_part, rest_part), search (rules, tally_moved, rest_part), search rules)

pub returns-clause-places_after : goal.returns-clause-places_after
returns-clause-places_after c = search (rules, area_placed, filling_end, rest_over)

pub returns-clause-value : goal.returns-clause-value
returns-clause-value c = search (rules, tally_end, rest_over)
