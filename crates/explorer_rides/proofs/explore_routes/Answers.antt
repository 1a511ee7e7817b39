-- `explore_routes`: one chosen route after the other.
use borrow.Author.Rules.{rules}
use Rattle.explorer_rides.proofs.Routes.{next_below, next_fits, next_room, next_less, exploring_start, exploring_step, exploring_end, exploring_in, placed_on}
use Rattle.explorer_rides.proofs.explore_routes.Goals as goal

pub loop-r-init : goal.loop-r-init
loop-r-init c = exploring_start

pub overflow_cast-r : goal.overflow_cast-r
overflow_cast-r c = record { fits = search (rules, next_fits) }

pub explore_route-requires-clause-in_round : goal.explore_route-requires-clause-in_round
explore_route-requires-clause-in_round c = search (rules, exploring_in)

pub explore_route-requires-clause-r_lt_routes : goal.explore_route-requires-clause-r_lt_routes
explore_route-requires-clause-r_lt_routes c = search (rules, next_below)

pub explore_route-requires-clause-r_bound : goal.explore_route-requires-clause-r_bound
explore_route-requires-clause-r_bound c = λ e. search (rules, placed_on, e)

pub overflow_add-from : goal.overflow_add-from
overflow_add-from c = record { fits = search (rules, next_room) }

pub loop-r-smaller : goal.loop-r-smaller
loop-r-smaller c = search (rules, next_less, c.loop-r.invariant.same.routes_same)

pub loop-r-preserved : goal.loop-r-preserved
loop-r-preserved c = search (rules, exploring_step)

pub returns : goal.returns
returns c = search (rules, exploring_end)
