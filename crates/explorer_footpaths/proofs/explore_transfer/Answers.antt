-- `explore_transfer`: the row leads to a stop, and takes no more than a day; where it can gain nothing, nothing is done.
use borrow.Author.Rules.{rules}
use Rattle.repository.proofs.Ranges.{row_known}
use Rattle.explorer_footpaths.proofs.Gaining.{path_lost}
use Rattle.explorer_footpaths.proofs.Paths.{transfer_in, transfer_most, row_path}
use Rattle.allocator.proofs.Becoming.{same_self}
use Rattle.explorer_footpaths.proofs.explore_transfer.Goals as goal

pub transfer_to-to-requires : goal.transfer_to-to-requires
transfer_to-to-requires c = search (rules, row_known)

pub may_gain-requires : goal.may_gain-requires
may_gain-requires c = search (rules, transfer_in)

pub transfer_duration-span-requires : goal.transfer_duration-span-requires
transfer_duration-span-requires c = search (rules, row_known)

pub explore_path-requires-clause-to_lt_stops : goal.explore_path-requires-clause-to_lt_stops
explore_path-requires-clause-to_lt_stops c = search (rules, transfer_in)

pub explore_path-requires-clause-span_bound : goal.explore_path-requires-clause-span_bound
explore_path-requires-clause-span_bound c = search (rules, transfer_most)

pub returns-then-may_gain : goal.returns-then-may_gain
returns-then-may_gain c = record { holds = search (rules, row_path); same = c.explore_path.ensures.same }

pub returns-else-may_gain : goal.returns-else-may_gain
returns-else-may_gain c = record { holds = search (rules, path_lost); same = same_self }
