-- `fits_ride`: in the route that the trip stands in.
use Rattle.std.proofs.Common.{rules}
use Rattle.judge_rides.proofs.Riding.{standing_ridable, ride_here, ride_nowhere}
use Rattle.judge_rides.proofs.fits_ride.Goals as goal

pub fits_trip-requires : goal.fits_trip-requires
fits_trip-requires c = search (rules, standing_ridable)

pub returns-then-v-trip_count : goal.returns-then-v-trip_count
returns-then-v-trip_count c = search (rules, ride_here)

pub returns-else-v-trip_count : goal.returns-else-v-trip_count
returns-else-v-trip_count c = search (rules, ride_nowhere)
