-- `raptor_rounds::rounds` meets its contract: the rounds left come to what the whole search comes to, by `At`.
use borrow.Author.Rules.{rules}
use Rattle.allocator.proofs.Becoming.{same_then}
use Rattle.raptor_rounds.proofs.Loop.{at_start, at_tabled, at_goals, at_ready, at_next, at_end, at_all}
use Rattle.raptor_rounds.proofs.rounds.Goals as goal

pub loop-k-init : goal.loop-k-init
loop-k-init c = search (rules, at_start)

pub next_round-aimed-requires-clause-tabled : goal.next_round-aimed-requires-clause-tabled
next_round-aimed-requires-clause-tabled c = search (rules, at_tabled)

pub next_round-aimed-requires-clause-ready : goal.next_round-aimed-requires-clause-ready
next_round-aimed-requires-clause-ready c = search (rules, at_ready)

pub next_round-aimed-requires-clause-below : goal.next_round-aimed-requires-clause-below
next_round-aimed-requires-clause-below c = search (rules, at_goals)

pub loop-k-preserved : goal.loop-k-preserved
loop-k-preserved c = search (rules, at_next)

pub returns-then-not-any_marked-clause-result_after : goal.returns-then-not-any_marked-clause-result_after
returns-then-not-any_marked-clause-result_after c = search (rules, at_end)

pub returns-then-not-any_marked-clause-same : goal.returns-then-not-any_marked-clause-same
returns-then-not-any_marked-clause-same c = same_then c.loop-k.invariant.same c.swap_labels.ensures.same

pub returns-clause-result_after : goal.returns-clause-result_after
returns-clause-result_after c = search (rules, at_all)

pub returns-clause-same : goal.returns-clause-same
returns-clause-same c = c.loop-k.invariant.same
