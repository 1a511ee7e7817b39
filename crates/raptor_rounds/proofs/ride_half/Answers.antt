-- `raptor_rounds::ride_half` meets its contract: a round opened, then its rides.
use Rattle.allocator.proofs.Becoming.{becomes_then}
use Rattle.raptor_rounds.proofs.Steps.{tabled_fixed, in_round, ready_placed}
use Rattle.raptor_rounds.proofs.ride_half.Goals as goal

pub open_round-requires : goal.open_round-requires
open_round-requires c = record { fixed = tabled_fixed c.requires.tabled }

pub explore_routes-requires : goal.explore_routes-requires
explore_routes-requires c =
    let opened = c.open_round.ensures in
    record {
      in_round = in_round opened.same c.args.round c.requires.tabled c.requires.ready.early;
      placed = ready_placed _ _ _ opened c.requires.ready;
    }

pub returns : goal.returns
returns c = becomes_then c.open_round.ensures c.explore_routes.ensures
