-- What a look at a call tells: whether the trip aboard proposes the stop, and whether the label of the round before catches a trip there.
use Rattle.std.specs.Prelude.{ℕ, Bool, false, cond, ◌&&◌, List, leb, eqb}
use Rattle.model.specs.declared.Direction.{Direction}
use Rattle.model.specs.declared.Direction.TheVariants.{Departure, Arrival}
use Rattle.model.specs.Moments.{MAX, better, ahead}
use Rattle.model.specs.Rides.{allows}
use Rattle.repository.specs.NetOf.{net_of}
use Rattle.discovery.specs.Trips.{trip_place}
use Rattle.explorer_rides.specs.declared.Call.{Call}
use Rattle.explorer_rides.specs.declared.Ride.{Ride}
use Rattle.explorer_rides.specs.declared.position.Seen.{Seen}
use Rattle.explorer_rides.specs.Riding.{aboard, caught, reach_in}

-- who is there at the label x can take what goes on at t
abbrev pub meets : Direction → ℕ → ℕ → Bool
meets Departure t x = leb x t
meets Arrival t x = leb t x

-- the moment at which the trip aboard comes to the call passes both tests: against the target, and against the best moment of the stop
unfoldable pub proposes_at : Direction → List ℕ → ℕ → ℕ → Call → Ride → Bool
proposes_at d w target best here a =
    ahead d (reach_in d w a.row here.position) target && better d (reach_in d w a.row here.position) best

-- the label allows a trip to be caught, the one aboard or another; an absent label catches none
unfoldable pub catches_at : Direction → List ℕ → Call → Ride → Bool
catches_at d w here a =
    cond (eqb here.label.0 0) false (allows d (net_of w) here.label.0 here.position (aboard a))

-- both
unfoldable pub look_at : Direction → List ℕ → ℕ → ℕ → Call → Ride → Seen
look_at d w target best here a = record {
  proposes = cond (eqb a.place MAX) false (proposes_at d w target best here a);
  catches = catches_at d w here a;
}

-- the ride that goes on from the call: that of the trip that the label catches
unfoldable pub rides_on : Direction → List ℕ → Call → Ride → Ride
rides_on d w here a =
    cond (catches_at d w here a)
    (caught w here.route here.position a (trip_place d (net_of w) here.route here.position here.label.0))
    a
