-- `proposes`: both tests of a proposal.
use borrow.Author.Rules.{rules}
use Rattle.explorer_rides.proofs.Seats.{times_in}
use Rattle.explorer_rides.proofs.Alighting.{both_tested, one_failed}
use Rattle.explorer_rides.proofs.position.proposes.Goals as goal

pub reaches_at-t-requires-clause-p_bound : goal.reaches_at-t-requires-clause-p_bound
reaches_at-t-requires-clause-p_bound c = search (rules, times_in)

pub returns-then-is_ahead : goal.returns-then-is_ahead
returns-then-is_ahead c = search (rules, both_tested)

pub returns : goal.returns
returns c = search (rules, one_failed)
