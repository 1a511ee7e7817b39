-- `board`: the ride that goes on.
use borrow.Author.Rules.{rules}
use Rattle.explorer_rides.proofs.Catching.{caught_aboard, caught_seated}
use Rattle.explorer_rides.proofs.Boarding.{catches_moment, rides_on_stay, rides_on_caught, board_stay, board_on}
use Rattle.explorer_rides.proofs.position.board.Goals as goal

pub catch_trip-requires-clause-label_nonzero : goal.catch_trip-requires-clause-label_nonzero
catch_trip-requires-clause-label_nonzero c = search (rules, catches_moment)

pub returns-then-catches-clause-value : goal.returns-then-catches-clause-value
returns-then-catches-clause-value c = search (rules, rides_on_caught)

pub returns-then-catches-clause-result_value : goal.returns-then-catches-clause-result_value
returns-then-catches-clause-result_value c = search (rules, board_on, caught_aboard)

pub returns-then-catches-clause-seated_2 : goal.returns-then-catches-clause-seated_2
returns-then-catches-clause-seated_2 c = search (rules, caught_seated)

pub returns-clause-value : goal.returns-clause-value
returns-clause-value c = search (rules, rides_on_stay)

pub returns-clause-result_value : goal.returns-clause-result_value
returns-clause-result_value c = search (rules, board_stay)
