-- `comes_at`: the stop first, then the moment.
use borrow.Author.Rules.{rules}
use Rattle.judge_rides.proofs.Riding.{at_readable, at_stands}
use Rattle.judge_rides.proofs.comes_at.Goals as goal

pub get_arrival_time-requires : goal.get_arrival_time-requires
get_arrival_time-requires c = search (rules, at_readable, at_stands)
