-- The trip that is caught at a position, and that an absent label catches none.
use Prim.Native.Nat.{ℕ, zero, suc, ◌+◌, ◌≤◌, ◌<◌}
use mathlib.Core.Path.{◌≡◌, refl, sym, ap, ◌∙◌}
use mathlib.Core.Bool.{Bool, true, false, cond}
use Rattle.std.specs.Prelude.{Option, None, Some}
use mathlib.Core.List.{List}
use native.Mathlib.Omega.{arith}
use borrow.Author.Tests.{lt-leb}
use Rattle.model.specs.declared.Direction.{Direction}
use Rattle.model.specs.declared.Direction.TheVariants.{Departure, Arrival}
use Rattle.model.specs.Lists.{upto}
use Rattle.model.specs.Tables.{Net}
use Rattle.model.specs.Moments.{MAX, or_max, reading}
use Rattle.model.specs.Rides.{Aboard, first_trip, last_trip, catch, allows, boarded}
use Rattle.repository.specs.Accepted.{Timed}
use Rattle.repository.specs.NetOf.{net_of}
use Rattle.repository.specs.Rows.{time_row, trip_count}
use Rattle.repository.proofs.Trips.{trip_known, place_of_trip}
use Rattle.discovery.specs.Trips.{trip_place}
use Rattle.discovery.proofs.Within.{trip_in, InRoute}
use Rattle.discovery.proofs.Caught.{place_trip, place_in}
use Rattle.explorer_rides.specs.declared.Call.{Call}
use Rattle.explorer_rides.specs.declared.Ride.{Ride}
use Rattle.explorer_rides.specs.Riding.{aboard, Seated, caught, OnRoute, board_at}
use Rattle.explorer_rides.proofs.Seats.{aboard_on, place_real}

-- ---- the lookup
module _ {d : Direction} (w : List ℕ) (r p x : ℕ) {t : Option ℕ} where
  pub place_departure : d ≡ Departure → t ≡ trip_place Departure (net_of w) r p x → t ≡ trip_place d (net_of w) r p x
  place_departure e f = f ∙ rw e

  pub place_arrival : d ≡ Arrival → t ≡ trip_place Arrival (net_of w) r p x → t ≡ trip_place d (net_of w) r p x
  place_arrival e f = f ∙ rw e

-- ---- the ride that the code makes of what was found
module _ (d : Direction) (w : List ℕ) (here : Call) (a : Ride) {t : Option ℕ}
    (e : t ≡ trip_place d (net_of w) here.route here.position here.label.0) where
  pub caught_in : {i : ℕ} → t ≡ Some i → i < (net_of w).trips here.route
  caught_in {i} f = (place_in w here.route here.position here.label.0 d).within i (sym e ∙ f)

  pub caught_at : {i : ℕ} {b : Ride} → t ≡ Some i → b ≡ caught w here.route here.position a (Some i)
      → b ≡ caught w here.route here.position a (trip_place d (net_of w) here.route here.position here.label.0)
  caught_at f g = g ∙ rw (← e, f)

  pub caught_not : t ≡ None
      → a ≡ caught w here.route here.position a (trip_place d (net_of w) here.route here.position here.label.0)
  unfolding caught
  caught_not f = rw (← e, f)

-- a seat on the trip at place i
module _ (w : List ℕ) (here : Call) (a : Ride) {i : ℕ} (q : OnRoute w here) (l : i < (net_of w).trips here.route) where
  -- the trip aboard stands there
  pub seat_same : Seated w here.route a → i ≡ a.place
      → record { trip = a.trip; since = here.position; row = a.row; place = i } ≡ caught w here.route here.position a (Some i)
  unfolding caught
  seat_same z e =
      let s = z.seat (λ m. place_real q.searchable q.route l (e ∙ m)) in
      rw (s.times, s.trip, e)

  module _ {v : ℕ} (g : v ≡ (net_of w).trip_at here.route i) where
    pub seat_known : v < trip_count w
    seat_known = trip_known q.searchable q.route (place_of_trip l g)

    pub seat_new : {row : ℕ} → row ≡ time_row w v
        → record { trip = v; since = here.position; row = row; place = i } ≡ caught w here.route here.position a (Some i)
    unfolding caught
    seat_new k = rw (← g, ← k)

-- ---- that ride is the model's, and the route has it
module _ (w : List ℕ) (here : Call) (a : Ride) (h : OnRoute w here) where
  abbrev r : ℕ
  r = here.route

  abbrev p : ℕ
  p = here.position

  trip_aboard : (found : Option ℕ) (t : Option ℕ) → InRoute (net_of w) r t → trip_in (net_of w) r t ≡ found
      → aboard (caught w r p a t) ≡ boarded p (aboard a) found
  unfolding caught trip_in boarded
  trip_aboard found (Some i) z e =
      let v = (net_of w).trip_at r i in
      aboard_on (record { trip = v; since = p; row = time_row w v; place = i }) (place_real h.searchable h.route (z.within i refl))
      ∙ rw (← e)
  trip_aboard found None z e = rw (← e)

  trip_seated : (t : Option ℕ) → InRoute (net_of w) r t → Seated w r a → Seated w r (caught w r p a t)
  unfolding caught
  trip_seated (Some i) z s = record {
    seat = λ real. record { place = z.within i refl; trip = refl; since = h.position; times = refl };
  }
  trip_seated None z s = s

  module _ (d : Direction) (x : ℕ) {b : Ride} (e : b ≡ caught w r p a (trip_place d (net_of w) r p x)) where
    pub caught_aboard : aboard b ≡ boarded p (aboard a) (catch d (net_of w) r p x)
    caught_aboard =
        ap aboard e
        ∙ trip_aboard (catch d (net_of w) r p x) (trip_place d (net_of w) r p x) (place_in w r p x d)
        (place_trip w r p x d h.searchable h.route h.position)

    pub caught_seated : Seated w r a → Seated w r b
    caught_seated s = rw e (trip_seated (trip_place d (net_of w) r p x) (place_in w r p x d) s)

-- ---- an absent label
module _ {n : Net} (z : Timed n) (r p : ℕ) (hr : r < n.routes) (hp : p < n.positions r) where
  -- no moment of a timetable is as late as MAX
  none_first : (c i : ℕ) → i + c ≤ n.trips r → first_trip n r p MAX (upto c i) ≡ None
  unfolding first_trip upto
  none_first zero i l = refl
  none_first (suc c) i l =
      let stays = z.stays r i p hr (omega arith) hp in
      let late : n.arrival (n.trip_at r i) p < MAX = omega (arith, z.to_million r i p hr (omega arith) hp, stays) in
      rw (lt-leb MAX (n.arrival (n.trip_at r i) p) late) (none_first c (suc i) (omega arith))

  -- or as early as 0
  none_last : (c i : ℕ) → i + c ≤ n.trips r → last_trip n r p 0 (upto c i) None ≡ None
  unfolding last_trip upto
  none_last zero i l = refl
  none_last (suc c) i l =
      ap (λ (b : Bool). last_trip n r p 0 (upto c (suc i)) (cond b (Some (n.trip_at r i)) None))
      (lt-leb (n.arrival (n.trip_at r i) p) 0 (omega (arith, z.from_one r i p hr (omega arith) hp)))
      ∙ none_last c (suc i) (omega arith)

  catch_absent : (d : Direction) → catch d n r p (reading d 0) ≡ None
  unfolding catch reading or_max
  catch_absent Departure = none_first (n.trips r) 0 (omega arith)
  catch_absent Arrival = none_last (n.trips r) 0 (omega arith)

-- "if none, stay", whatever the test says
stay_none : (b : Bool) (p : ℕ) (a : Option Aboard) → a ≡ cond b (boarded p a None) a
unfolding boarded
stay_none true p a = refl
stay_none false p a = refl

pub board_absent : (d : Direction) (w : List ℕ) (here : Call) (a : Option Aboard) {x : ℕ} → OnRoute w here → x ≡ 0
    → a ≡ board_at d (net_of w) here.route here.position x a
unfolding board_at
board_absent d w here a h e =
    rw (e, catch_absent h.searchable.timed here.route here.position h.route h.position d)
    (stay_none (allows d (net_of w) (reading d 0) here.position a) here.position a)
