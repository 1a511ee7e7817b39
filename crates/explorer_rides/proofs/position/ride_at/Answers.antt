-- `ride_at`: alight, then board.
use borrow.Author.Rules.{rules}
use Rattle.explorer_rides.proofs.Boarding.{board_is}
use Rattle.explorer_rides.proofs.position.ride_at.Goals as goal

pub returns-clause-result_value : goal.returns-clause-result_value
returns-clause-result_value c = search (rules, board_is)
