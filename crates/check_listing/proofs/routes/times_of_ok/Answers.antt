-- `times_of_ok`: each trip decides.
use borrow.Author.Rules.{rules}
use Prim.Native.Nat.{◌+◌}
use Rattle.std.proofs.lemmas.Iterator.{serves_from_Range}
use Rattle.repository.specs.Sections.{sec, ROUTE_TRIP_STARTS}
use Rattle.repository.specs.Listed.{under, time_each}
use Rattle.check_calls.proofs.Rooms.{row_in}
use Rattle.repository.proofs.All.{all_over}
use Rattle.check_listing.proofs.routes.times_of_ok.Goals as goal

pub all-requires-clause-callable : goal.all-requires-clause-callable
all-requires-clause-callable c = serves_from_Range (λ x q k. search rules) (λ x h g.
    let t = c.requires in search (rules, row_in t.laid.route_trip_starts c.args.r t.r_bound g c.rows_under.ensures.end))

pub returns : goal.returns
unfolding under
returns c =
    let w = c.args.tables.now in
    all_over (time_each w c.args.r) (sec w ROUTE_TRIP_STARTS c.args.r) (sec w ROUTE_TRIP_STARTS (c.args.r + 1)) _ _ _ c.all.ensures.ran (search rules) (search rules) (λ x t q k. search rules)
