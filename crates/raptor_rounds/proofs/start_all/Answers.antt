-- `raptor_rounds::start_all` meets its contract: every start stop labelled and marked, by `Starting`.
use borrow.Author.Rules.{rules}
use Rattle.base.proofs.Below.{entry_below}
use Rattle.allocator.proofs.Becoming.{same_self, same_then}
use Rattle.raptor_rounds.proofs.Starting.{starting_none, starting_on, starting_all}
use Rattle.raptor_rounds.proofs.Steps.{below_same}
use Rattle.raptor_rounds.proofs.start_all.Goals as goal

pub loop-s-init : goal.loop-s-init
loop-s-init c = (search (rules, starting_none), same_self)

pub start-requires : goal.start-requires
start-requires c =
    let below = below_same c.loop-s.invariant.1 c.requires in
    search (rules, entry_below, below)

pub loop-s-preserved : goal.loop-s-preserved
loop-s-preserved c =
    let step = c.start.ensures in
    (search (rules, starting_on), same_then c.loop-s.invariant.1 step.same)

pub returns : goal.returns
returns c = record { holds = search (rules, starting_all); same = c.loop-s.invariant.1 }
