-- `raptor_rounds::next_round` meets its contract: both halves are a round, then the target after it.
use borrow.Author.Rules.{rules}
use Rattle.allocator.proofs.Becoming.{same_then, becomes_then}
use Rattle.raptor_rounds.specs.OneRound.{round_work}
use Rattle.raptor_rounds.proofs.Steps.{tabled_same, below_same, ready_footing}
use Rattle.raptor_rounds.proofs.next_round.Goals as goal

pub foot_half-requires : goal.foot_half-requires
foot_half-requires c =
    let rode = c.ride_half.ensures in
    record {
      tabled = tabled_same rode.same c.requires.tabled;
      number_bound = c.requires.ready.early;
      footing = ready_footing _ _ _ _ _ _ rode c.requires.tabled c.requires.ready;
    }

pub target_after-requires : goal.target_after-requires
target_after-requires c = below_same (same_then c.ride_half.ensures.same c.foot_half.ensures.same) c.requires.below

pub returns : goal.returns
unfolding round_work
returns c = record { does = becomes_then c.ride_half.ensures c.foot_half.ensures; value = search rules }
