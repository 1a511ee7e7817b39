-- What a ride that the route has says of its trip, and the stops of the route as they are lent.
use Prim.Native.Nat.{ℕ, ◌+◌, ◌<◌}
use mathlib.Core.Path.{◌≡◌, ap, ◌∙◌}
use mathlib.Core.List.{List}
use native.Mathlib.Omega.{arith}
use lib.ListN.{length, get_or}
use borrow.Author.Tests.{eq-eqb, ne_eqb}
use Rattle.std.specs.Prelude.{Some, None}
use Rattle.model.specs.Moments.{MAX}
use Rattle.repository.specs.NetOf.{net_of}
use Rattle.shared.specs.declared.Time.{Time}
use Rattle.repository.specs.Rows.{TripOf, time_count}
use Rattle.repository.proofs.Stops.{stop_known}
use Rattle.repository.specs.Readable.{Searchable}
use Rattle.repository.proofs.Trips.{time_known, place_few}
use Rattle.base.proofs.Tab.{tab_length, tab_at}
use Rattle.explorer.specs.declared.Round.{Round}
use Rattle.explorer.specs.Fixed.{Fixed}
use Rattle.explorer_rides.specs.declared.Call.{Call}
use Rattle.explorer_rides.specs.declared.Ride.{Ride}
use Rattle.explorer_rides.specs.Riding.{aboard, Seat, Seated, OnRoute, Riding}

-- ---- the stops of the route
module _ {w stops : List ℕ} {round : Round} {r : ℕ} (h : Riding w round r stops) where
  long : length stops ≡ (net_of w).positions r
  long = ap length h.along ∙ tab_length ((net_of w).stop_at r) ((net_of w).positions r) 0

  module _ {p : ℕ} (l : p < (net_of w).positions r) where
    pub stop_room : p < length stops
    stop_room = omega (arith, long)

    pub stop_read : get_or stops p 0 ≡ (net_of w).stop_at r p
    stop_read =
        ap (λ (x : List ℕ). get_or x p 0) h.along ∙ tab_at ((net_of w).stop_at r) ((net_of w).positions r) p 0 l

    pub call_at : {x : Time} → OnRoute w (record { route = r; position = p; stop = get_or stops p 0; label = x })
    call_at = record { searchable = h.searchable; route = h.route; position = l; stop = stop_read }

pub call_in : {w : List ℕ} {stops routes : ℕ} {here : Call} → Fixed w stops routes → OnRoute w here → here.stop < stops
call_in f q = rw f.net_stops (stop_known q.searchable q.route q.position q.stop)

-- ---- the trip aboard
module _ {w : List ℕ} {r : ℕ} {ride : Ride} (s : Seat w r ride) where
  seat_trip : TripOf (net_of w) r ride.trip
  seat_trip = record { place = ride.place; within = s.place; trip = s.trip }

  pub seat_room : {round : Round} {stops : List ℕ} → Riding w round r stops → ride.since < length stops
  seat_room h = stop_room h s.since

  pub seat_times : {round : Round} {stops : List ℕ} → Riding w round r stops → ride.row + ride.since < time_count w
  seat_times h = time_known h.searchable h.route seat_trip s.since s.times

module _ {w : List ℕ} {r : ℕ} {ride : Ride} (z : Seated w r ride) (e : ride.place ≡ MAX → ⊥) where
  pub seat_on : Seat w r ride
  seat_on = z.seat e

module _ {w : List ℕ} {here : Call} {ride : Ride} (q : OnRoute w here) where
  pub times_in : Seat w here.route ride → ride.row + here.position < time_count w
  times_in s = time_known q.searchable q.route (seat_trip s) q.position s.times

-- a place of a route is none of MAX: "16,384 trips"
pub place_real : {w : List ℕ} {r i : ℕ} → Searchable w → r < (net_of w).routes → i < (net_of w).trips r → i ≡ MAX → ⊥
place_real h l k e = omega (arith, place_few h l k)

pub seat_real : {w : List ℕ} {here : Call} {a : Ride} → OnRoute w here → Seat w here.route a → a.place ≡ MAX → ⊥
seat_real q s = place_real q.searchable q.route s.place

module _ (a : Ride) where
  pub aboard_on : (a.place ≡ MAX → ⊥) → aboard a ≡ Some (record { trip = a.trip; since = a.since })
  unfolding aboard
  aboard_on e = rw (ne_eqb a.place MAX e)

  pub aboard_off : a.place ≡ MAX → aboard a ≡ None
  unfolding aboard
  aboard_off e = rw (eq-eqb a.place MAX e)
