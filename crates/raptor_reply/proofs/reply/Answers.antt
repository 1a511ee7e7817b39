-- `raptor_reply::reply` meets its contract: its three answers.
use borrow.Author.Rules.{rules}
use Rattle.raptor_reply.proofs.Replies.{none_chosen, unwritten, chosen_traced, chosen_round, too_long, fits, found_written}
use Rattle.raptor_reply.proofs.reply.Goals as goal

pub returns-then-time-eq0-clause-value : goal.returns-then-time-eq0-clause-value
returns-then-time-eq0-clause-value c = search (rules, none_chosen)

pub returns-then-time-eq0-clause-journey_after : goal.returns-then-time-eq0-clause-journey_after
returns-then-time-eq0-clause-journey_after c = search (rules, unwritten)

pub size_back-length-requires-clause-traced : goal.size_back-length-requires-clause-traced
size_back-length-requires-clause-traced c = search (rules, chosen_traced)

pub size_back-length-requires-clause-k_bound : goal.size_back-length-requires-clause-k_bound
size_back-length-requires-clause-k_bound c = search (rules, chosen_round)

pub returns-then-journey-length-clause-value : goal.returns-then-journey-length-clause-value
returns-then-journey-length-clause-value c = search (rules, too_long)

pub returns-then-journey-length-clause-journey_after : goal.returns-then-journey-length-clause-journey_after
returns-then-journey-length-clause-journey_after c = search (rules, unwritten)

pub backtrack-requires-clause-traced : goal.backtrack-requires-clause-traced
backtrack-requires-clause-traced c = search (rules, chosen_traced)

pub backtrack-requires-clause-k_bound : goal.backtrack-requires-clause-k_bound
backtrack-requires-clause-k_bound c = search (rules, chosen_round)

pub returns-clause-value : goal.returns-clause-value
returns-clause-value c = search (rules, fits)

pub returns-clause-journey_after : goal.returns-clause-journey_after
returns-clause-journey_after c = search (rules, found_written)
