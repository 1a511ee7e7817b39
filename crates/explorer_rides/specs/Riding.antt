-- A ride as the scan carries it, and what stands fixed along a route.
use Rattle.std.specs.Prelude.{ℕ, ◌<◌, ◌≡◌, ◌≢◌, cond, List, eqb, Option, None, Some}
use Rattle.base.specs.Tab.{tab}
use Rattle.model.specs.declared.Direction.{Direction}
use Rattle.model.specs.declared.Direction.TheVariants.{Departure, Arrival}
use Rattle.model.specs.declared.Leg.{Leg}
use Rattle.model.specs.declared.LegType.TheVariants.{Transit}
use Rattle.model.specs.Tables.{Net}
use Rattle.model.specs.Legs.{leg_of}
use Rattle.model.specs.Limits.{MOST_ROUNDS}
use Rattle.model.specs.Moments.{MAX, reading}
use Rattle.model.specs.Rides.{Aboard, leave, catch, allows, boarded}
use Rattle.repository.specs.Readable.{Searchable}
use Rattle.repository.specs.Sections.{arrival_in, departure_in}
use Rattle.repository.specs.NetOf.{net_of}
use Rattle.repository.specs.Rows.{time_row}
use Rattle.explorer.specs.declared.Round.{Round}
use Rattle.explorer_rides.specs.declared.Ride.{Ride}
use Rattle.explorer_rides.specs.declared.Call.{Call}

-- the model's word for it
unfoldable pub aboard : Ride → Option Aboard
aboard a = cond (eqb a.place MAX) None (Some (record { trip = a.trip; since = a.since }))

-- the trip stands at that place of the route, was boarded at a position of it, and its times begin at the row
pub record Seat (w : List ℕ) (r : ℕ) (a : Ride) : Type 0 where
  pub place : a.place < (net_of w).trips r
  pub trip : a.trip ≡ (net_of w).trip_at r a.place
  pub since : a.since < (net_of w).positions r
  pub times : a.row ≡ time_row w a.trip

-- so it is where there is a trip
pub record Seated (w : List ℕ) (r : ℕ) (a : Ride) : Type 0 where
  pub seat : a.place ≢ MAX → Seat w r a

-- the trip at a place of route r is boarded at position p; where there is none, the ride a goes on
unfoldable pub caught : List ℕ → ℕ → ℕ → Ride → Option ℕ → Ride
caught w r p a (Some i) = record { trip = (net_of w).trip_at r i; since = p; row = time_row w ((net_of w).trip_at r i); place = i }
caught w r p a None = a

-- the leg of the trip from the position of route r where it was boarded to the stop s at t
unfoldable pub ride_leg : Direction → Net → ℕ → Ride → ℕ → ℕ → Leg
ride_leg d n r a s t = leg_of d (Transit a.trip) (n.stop_at r a.since) (leave d n a.trip a.since) s t

-- in a round, along the route r, whose stops are lent
pub record Riding (w : List ℕ) (round : Round) (r : ℕ) (stops : List ℕ) : Type 0 where
  pub searchable : Searchable w
  pub number : round.number < MOST_ROUNDS
  pub route : r < (net_of w).routes
  pub along : stops ≡ tab ((net_of w).stop_at r) ((net_of w).positions r) 0

-- the same behind a function, so that only who asks for its many facts has them
pub record Rideable (w : List ℕ) (round : Round) (r : ℕ) (stops : List ℕ) : Type 0 where
  pub known : Unit {0} → Riding w round r stops

-- at a call: a position of a route, with its stop
pub record OnRoute (w : List ℕ) (here : Call) : Type 0 where
  pub searchable : Searchable w
  pub route : here.route < (net_of w).routes
  pub position : here.position < (net_of w).positions here.route
  pub stop : here.stop ≡ (net_of w).stop_at here.route here.position

-- the model's `board` where the label of the round before is x
unfoldable pub board_at : Direction → Net → ℕ → ℕ → ℕ → Option Aboard → Option Aboard
board_at d n r p x a = cond (allows d n (reading d x) p a) (boarded p a (catch d n r p (reading d x))) a

-- when the trip whose times begin at the row comes to position p, and when it goes on from there, as the search goes
abbrev pub reach_in : Direction → List ℕ → ℕ → ℕ → ℕ
reach_in Departure w row p = arrival_in w row p
reach_in Arrival w row p = departure_in w row p

abbrev pub leave_in : Direction → List ℕ → ℕ → ℕ → ℕ
leave_in Departure w row p = departure_in w row p
leave_in Arrival w row p = arrival_in w row p
