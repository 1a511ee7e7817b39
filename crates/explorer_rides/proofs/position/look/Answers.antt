-- `look`: by the direction; where nobody is aboard, by the label.
use borrow.Author.Rules.{rules}
use Rattle.explorer_rides.proofs.Seats.{seat_on}
use Rattle.explorer_rides.proofs.Boarding.{look_off, look_named, catches_off}
use Rattle.explorer_rides.proofs.position.look.Goals as goal

pub returns-then-ride-eq-MAX : goal.returns-then-ride-eq-MAX
returns-then-ride-eq-MAX c = search (rules, look_off, catches_off)

pub look_by-requires-clause-seat : goal.look_by-requires-clause-seat
look_by-requires-clause-seat c = search (rules, seat_on)

pub look_by-requires-in-Arrival-clause-seat : goal.look_by-requires-in-Arrival-clause-seat
look_by-requires-in-Arrival-clause-seat c = search (rules, seat_on)

pub returns-in-Departure : goal.returns-in-Departure
returns-in-Departure c = search (rules, look_named)

pub returns-in-Arrival : goal.returns-in-Arrival
returns-in-Arrival c = search (rules, look_named)
