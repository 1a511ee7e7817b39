-- The moments of the trip aboard as the code reads them, by the row of its times; and the leg of its ride.
use Prim.Native.Nat.{ℕ}
use mathlib.Core.Path.{◌≡◌, ◌∙◌}
use mathlib.Core.List.{List}
use lib.ListN.{get_or}
use Rattle.model.specs.declared.Direction.{Direction}
use Rattle.model.specs.declared.Direction.TheVariants.{Departure, Arrival}
use Rattle.model.specs.declared.Leg.{Leg}
use Rattle.model.specs.declared.LegType.TheVariants.{Transit}
use Rattle.model.specs.Legs.{leg_of}
use Rattle.model.specs.Rides.{reach, leave}
use Rattle.repository.specs.Sections.{arrival_in, departure_in}
use Rattle.repository.specs.NetOf.{net_of}
use Rattle.repository.specs.Rows.{time_row}
use Rattle.repository.proofs.Trips.{arrival_is, departure_is}
use Rattle.explorer.specs.declared.Round.{Round}
use Rattle.explorer_rides.specs.declared.Ride.{Ride}
use Rattle.explorer_rides.specs.Riding.{Seat, ride_leg, Riding, reach_in, leave_in}
use Rattle.explorer_rides.proofs.Seats.{stop_read}

-- ---- a trip's moments, as the code reads them
module _ {d : Direction} (w : List ℕ) (row p : ℕ) {t : ℕ} where
  pub reach_departure : d ≡ Departure → t ≡ arrival_in w row p → t ≡ reach_in d w row p
  reach_departure e f = rw e f

  pub reach_arrival : d ≡ Arrival → t ≡ departure_in w row p → t ≡ reach_in d w row p
  reach_arrival e f = rw e f

  pub leave_departure : d ≡ Departure → t ≡ departure_in w row p → t ≡ leave_in d w row p
  leave_departure e f = rw e f

  pub leave_arrival : d ≡ Arrival → t ≡ arrival_in w row p → t ≡ leave_in d w row p
  leave_arrival e f = rw e f

module _ (w : List ℕ) (v p : ℕ) {row t : ℕ} (e : row ≡ time_row w v) where
  pub reach_is : (d : Direction) → t ≡ reach_in d w row p → t ≡ reach d (net_of w) v p
  unfolding reach
  reach_is Departure f = arrival_is w v p e f
  reach_is Arrival f = departure_is w v p e f

  pub leave_is : (d : Direction) → t ≡ leave_in d w row p → t ≡ leave d (net_of w) v p
  unfolding leave
  leave_is Departure f = departure_is w v p e f
  leave_is Arrival f = arrival_is w v p e f

-- ---- the leg that the code makes
pub leg_is : {w stops : List ℕ} {round : Round} {r : ℕ} (a : Ride) (s t : ℕ) {x : ℕ} {g : Leg} → Riding w round r stops → Seat w r a
    → x ≡ leave_in round.direction w a.row a.since
    → g ≡ leg_of round.direction (Transit a.trip) (get_or stops a.since 0) x s t
    → g ≡ ride_leg round.direction (net_of w) r a s t
unfolding ride_leg
leg_is {w} {round = round} a s t h z ex eg =
    eg ∙ rw (stop_read h z.since, leave_is w a.trip a.since z.times round.direction ex)
