-- `alight`: who is aboard proposes.
use borrow.Author.Rules.{rules}
use Rattle.explorer_rides.proofs.Seats.{call_in}
use Rattle.explorer_rides.proofs.Alighting.{seen_seat, alight_not, alight_take}
use Rattle.explorer_rides.proofs.Boarding.{look_catches}
use Rattle.allocator.proofs.Becoming.{same_self}
use Rattle.explorer_rides.proofs.position.alight.Goals as goal

pub look-seen-requires-clause-stop_lt_stops : goal.look-seen-requires-clause-stop_lt_stops
look-seen-requires-clause-stop_lt_stops c = search (rules, call_in)

pub propose-requires-clause-seat : goal.propose-requires-clause-seat
propose-requires-clause-seat c = search (rules, seen_seat)

pub returns-then-seen-clause-does : goal.returns-then-seen-clause-does
returns-then-seen-clause-does c = record { holds = search (rules, alight_take); same = c.propose.ensures.same }

pub returns-then-seen-clause-value : goal.returns-then-seen-clause-value
returns-then-seen-clause-value c = search (rules, look_catches)

pub returns-clause-does : goal.returns-clause-does
returns-clause-does c = record { holds = search (rules, alight_not); same = same_self }

pub returns-clause-value : goal.returns-clause-value
returns-clause-value c = search (rules, look_catches)
