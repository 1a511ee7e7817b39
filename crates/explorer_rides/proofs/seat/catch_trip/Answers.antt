-- `catch_trip`: a seat on the trip that was found.
use borrow.Author.Rules.{rules}
use Rattle.explorer_rides.proofs.Catching.{caught_in, caught_at, caught_not}
use Rattle.explorer_rides.proofs.seat.catch_trip.Goals as goal

pub seat_at-requires-clause-i_bound : goal.seat_at-requires-clause-i_bound
seat_at-requires-clause-i_bound c = search (rules, caught_in)

pub returns-in-Some : goal.returns-in-Some
returns-in-Some c = search (rules, caught_at)

pub returns-in-None : goal.returns-in-None
returns-in-None c = search (rules, caught_not)
