-- `raptor_rounds::foot_half` meets its contract: what the rides left held, then the footpaths.
use Rattle.allocator.proofs.Becoming.{becomes_then}
use Rattle.raptor_rounds.proofs.Steps.{in_round, footing_held}
use Rattle.raptor_rounds.proofs.foot_half.Goals as goal

pub explore_transfers-requires : goal.explore_transfers-requires
explore_transfers-requires c =
    let holds = c.hold.ensures in
    record {
      in_round = in_round holds.same c.args.round c.requires.tabled c.requires.number_bound;
      footing = footing_held holds c.requires.footing;
    }

pub returns : goal.returns
returns c = becomes_then c.hold.ensures c.explore_transfers.ensures
