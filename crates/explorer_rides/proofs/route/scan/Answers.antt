-- `scan`: one position after the other.
use borrow.Author.Rules.{rules}
use Rattle.explorer_rides.proofs.Scanning.{known_riding, known_laid, known_route, known_room, known_stop, known_call, known_fits, known_scaled, known_next}
use Rattle.explorer_rides.proofs.Scanning.{on_way, left_start, within_start, left_on, left_less, left_end, within_on}
use Rattle.explorer_rides.proofs.Scanning.{along_start, along_step, along_end, along_fixed}
use Rattle.explorer_rides.proofs.route.scan.Goals as goal

pub route_len-end-requires-clause-laid : goal.route_len-end-requires-clause-laid
route_len-end-requires-clause-laid c = search (rules, known_laid)

pub route_len-end-requires-clause-r_bound : goal.route_len-end-requires-clause-r_bound
route_len-end-requires-clause-r_bound c = search (rules, known_route)

pub loop-p-init : goal.loop-p-init
loop-p-init c = (search (rules, along_start, left_start), search (rules, within_start))

pub overflow_cast-s : goal.overflow_cast-s
overflow_cast-s c = record { fits = search (rules, known_fits, on_way) }

pub offset_bounds-stops-p : goal.offset_bounds-stops-p
offset_bounds-stops-p c = record { fits = search (rules, known_scaled, on_way) }

pub bounds-stops-p : goal.bounds-stops-p
bounds-stops-p c = search (rules, known_room, on_way)

pub prev-label-requires : goal.prev-label-requires
prev-label-requires c = search (rules, known_stop, on_way, along_fixed)

pub ride_at-ride-requires-clause-riding : goal.ride_at-ride-requires-clause-riding
ride_at-ride-requires-clause-riding c = search (rules, known_riding)

pub ride_at-ride-requires-clause-on_route : goal.ride_at-ride-requires-clause-on_route
ride_at-ride-requires-clause-on_route c = search (rules, known_call, on_way)

pub ride_at-ride-requires-clause-fixed : goal.ride_at-ride-requires-clause-fixed
ride_at-ride-requires-clause-fixed c = search (rules, along_fixed)

pub next_of-p-requires : goal.next_of-p-requires
next_of-p-requires c = search (rules, known_next, on_way)

pub loop-p-smaller : goal.loop-p-smaller
loop-p-smaller c = search (rules, left_less, on_way)

pub loop-p-preserved : goal.loop-p-preserved
loop-p-preserved c = (search (rules, along_step, left_on, on_way), search (rules, within_on, on_way))

pub returns : goal.returns
returns c = search (rules, along_end, left_end)
