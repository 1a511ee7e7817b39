-- `count_served`: the served of the stops that are left, and those counted, are all.
use borrow.Author.Rules.{rules}
use Rattle.base.proofs.Below.{entry_below}
use Rattle.discovery.proofs.Counting.{served_over, tally_end, tally_start, tally_next}
use Rattle.discovery.proofs.places.count_served.Goals as goal

pub loop-s-init : goal.loop-s-init
loop-s-init c = (search (rules, tally_start), search rules)

pub served-requires-clause-s_bound : goal.served-requires-clause-s_bound
served-requires-clause-s_bound c = search (rules, entry_below)

pub loop-s-preserved : goal.loop-s-preserved
loop-s-preserved c = (search (rules, tally_next), search rules)

pub returns : goal.returns
returns c = search (rules, tally_end, served_over)
