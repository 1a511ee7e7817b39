-- `fits_trip`: the positions that are left decide; the first that the trip may leave from decides alone.
use Rattle.std.proofs.Common.{rules}
use Rattle.handheld.proofs.Any.{number_none}
use Rattle.judge_rides.proofs.Riding.{trip_start, trip_next, trip_here}
use Rattle.judge_rides.proofs.fits_trip.Goals as goal

pub loop-b-init : goal.loop-b-init
loop-b-init c = search (rules, trip_start)

pub returns-then-leaves_at : goal.returns-then-leaves_at
returns-then-leaves_at c = search (rules, trip_here)

pub loop-b-preserved : goal.loop-b-preserved
loop-b-preserved c = search (rules, trip_next)

pub returns : goal.returns
returns c = search (rules, number_none)
