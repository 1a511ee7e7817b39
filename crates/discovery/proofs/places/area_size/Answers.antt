-- `area_size`: the stops that come of the named stops which are left, and those counted, are all.
use borrow.Author.Rules.{rules}
use Rattle.discovery.proofs.Counting.{tally_part, tally_end}
use Rattle.discovery.proofs.Areas.{named_known, children_stops, rest_part, rest_over, area_tally, part_fits}
use Rattle.discovery.proofs.places.area_size.Goals as goal

pub loop-s-init : goal.loop-s-init
loop-s-init c = search (rules, area_tally)

pub children-children-requires : goal.children-children-requires
children-children-requires c = search (rules, named_known)

pub count_served-k-requires-clause-below : goal.count_served-k-requires-clause-below
count_served-k-requires-clause-below c = search (rules, children_stops, named_known)

pub overflow_add-k : goal.overflow_add-k
overflow_add-k c = record { fits = search (rules, part_fits) }

pub loop-s-preserved : goal.loop-s-preserved
loop-s-preserved c = search (rules, tally_part, rest_part)

pub returns : goal.returns
returns c = search (rules, tally_end, rest_over)
