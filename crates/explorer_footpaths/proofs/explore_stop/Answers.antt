-- `explore_stop`: the label that was read before the transfers is still the one that is held after them.
use borrow.Author.Rules.{rules}
use Rattle.allocator.proofs.Becoming.{same_then}
use Rattle.explorer_footpaths.proofs.Stops.{leaving_at, leaving_same, stop_only, stop_walks}
use Rattle.explorer_footpaths.proofs.explore_stop.Goals as goal

pub held-x-requires : goal.held-x-requires
held-x-requires c = c.requires.leaving.stop

pub explore_transfers_at-requires : goal.explore_transfers_at-requires
explore_transfers_at-requires c = search (rules, leaving_at)

pub explore_walks_at-requires : goal.explore_walks_at-requires
explore_walks_at-requires c = record { leaving = leaving_same c.explore_transfers_at.ensures.same (leaving_at c.requires.leaving c.held-x.ensures) }

pub returns-then-round : goal.returns-then-round
returns-then-round c =
    let a = c.explore_transfers_at.ensures in
    let b = c.explore_walks_at.ensures in
    let same = a.same.stops_same in
    record { holds = stop_walks _ _ _ _ _ c.args.workspace.now c.requires.leaving.in_round.fixed.net_stops c.held-x.ensures a.holds c.if-round.true same b.holds; same = same_then a.same b.same }

pub returns-else-round : goal.returns-else-round
returns-else-round c = record { holds = search (rules, stop_only); same = c.explore_transfers_at.ensures.same }
