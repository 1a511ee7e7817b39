-- `is_not_before`: the arrival that is read decides the test.
use borrow.Author.Rules.{rules}
use Rattle.discovery.proofs.Near.{along_readable, along_stands}
use Rattle.discovery.proofs.Tests.{not_before_is}
use Rattle.discovery.proofs.is_not_before.Goals as goal

pub trip_at-v-requires : goal.trip_at-v-requires
trip_at-v-requires c = search (rules, along_readable)

pub get_arrival_time-a-requires : goal.get_arrival_time-a-requires
get_arrival_time-a-requires c = search (rules, along_readable, along_stands)

pub returns : goal.returns
returns c = search (rules, not_before_is)
