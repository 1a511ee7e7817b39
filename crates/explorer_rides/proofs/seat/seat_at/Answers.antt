-- `seat_at`: the trip aboard again, or another.
use borrow.Author.Rules.{rules}
use Rattle.explorer_rides.proofs.Catching.{seat_same, seat_known, seat_new}
use Rattle.explorer_rides.proofs.seat.seat_at.Goals as goal

pub returns-then-i-ride : goal.returns-then-i-ride
returns-then-i-ride c = search (rules, seat_same)

pub time_row-requires : goal.time_row-requires
time_row-requires c = search (rules, seat_known)

pub returns : goal.returns
returns c = search (rules, seat_new)
