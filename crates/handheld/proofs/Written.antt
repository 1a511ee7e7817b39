-- "Everything our search writes gets a yes (arrival: with footpaths listed both ways)."
-- Assumes nothing.
use Prim.Native.Nat.{ℕ, zero, suc, ◌≤◌, ◌<◌}
use mathlib.Core.Path.{◌≡◌, refl}
use mathlib.Core.Bool.{Bool, true}
use mathlib.Core.List.{List, [], ◌∷◌, Memᴰ, reverse, reverse_aux}
use native.Mathlib.Omega.{arith}
use Rattle.model.specs.declared.Direction.{Direction}
use Rattle.model.specs.declared.Direction.TheVariants.{Departure, Arrival}
use Rattle.model.specs.declared.Leg.{Leg}
use Rattle.model.specs.declared.Mode.{Mode}
use Rattle.model.specs.declared.Query.{Query}
use Rattle.model.specs.declared.TimeConstraint.{TimeConstraint}
use Rattle.model.specs.declared.TimeConstraint.TheVariants.{Departure as DepartAt, Arrival as ArriveBy}
use Rattle.model.specs.Tables.{Net}
use Rattle.model.specs.State.{Task, task}
use Rattle.model.specs.Places.{place_stops}
use Rattle.model.specs.Round.{listed}
use Rattle.model.specs.Search.{search}
use Rattle.model.specs.Back.{in_order, journey}
use Rattle.model.specs.Answer.{may_walk, task_by, task_of, refusal, searched, legs_of}
use Rattle.model.specs.Journey.{Chain, stay, ride_on, walk_on}
use Rattle.model.specs.Sound.{Sound, SoundPlaces, Asked}
use Rattle.model.proofs.Orders.{listed_fair}
use Rattle.model.proofs.Trail.{Trail, begin, rode, went}
use Rattle.model.proofs.Journeys.{trail, chosen, in_rounds, departing, arriving}
use Rattle.model.proofs.Asking.{asked}
use Rattle.handheld.specs.Right.{Joined, done, by_ride, by_path, is_ride, begins_with_ride, ends_with_ride, soonest}
use Rattle.handheld.specs.Right.{RightFor, Right, Ways}
use Rattle.handheld.specs.Verdict.{verdict}
use Rattle.handheld.proofs.Legs.{false_is}
use Rattle.handheld.proofs.Decided.{verdict_complete}

-- ---- legs of demand 3 are joined: a handheld's legs need not keep to the moments of trips, ours do
module _ {d : Direction} {n : Net} {v : Bool} where
  pub chain_joined : {s x u y k : ℕ} {gs : List Leg} → Chain d n v s x u y k gs → Joined n v s x u y k gs
  chain_joined stay = done
  chain_joined (ride_on g r a b c) = by_ride g r a b (chain_joined c)
  chain_joined (walk_on g w m a b c) = by_path g w a b (chain_joined c)

-- with a ride among them they can be begun at any moment
joined_sooner : {n : Net} {v : Bool} {s x u y k : ℕ} {gs : List Leg} → Joined n v s x u y k gs → 1 ≤ k → Joined n v s 0 u y k gs
joined_sooner done h = absurd (omega arith)
joined_sooner (by_ride g d a b c) h = by_ride {x = 0} g d a (omega arith) c
joined_sooner (by_path g d a b c) h = by_path {x = 0} g d a (omega arith) c

-- ---- the leg that the search made first is a ride
none_yet : (n : Net) (q : Task) {s m : ℕ} {gs : List Leg} → Trail n q zero s m gs → gs ≡ []
none_yet n q (begin s i) = refl

ends_on : (g : Leg) (gs : List Leg) → ends_with_ride gs ≡ true → ends_with_ride (g ∷ gs) ≡ true
unfolding ends_with_ride
ends_on g [] e = false_is e
ends_on g (h ∷ gs) e = e

first_rides : (n : Net) (q : Task) {k s m : ℕ} {gs : List Leg} → Trail n q (suc k) s m gs → ends_with_ride gs ≡ true
unfolding ends_with_ride is_ride
first_rides n q (rode {k = zero} {gs = gs} g y r e f) = rw (none_yet n q y, r.kind)
first_rides n q (rode {k = suc k} {gs = gs} g y r e f) = ends_on g gs (first_rides n q y)
first_rides n q (went {gs = gs} g y w e f b) = ends_on g gs (first_rides n q y)

-- turned round, it comes first
turned_first : (g : Leg) (gs rest : List Leg) → ends_with_ride (g ∷ gs) ≡ true → begins_with_ride (reverse_aux (g ∷ gs) rest) ≡ true
unfolding ends_with_ride begins_with_ride
turned_first g [] rest e = e
turned_first g (h ∷ gs) rest e = turned_first h gs (g ∷ rest) e

reverse_first : (gs : List Leg) → ends_with_ride gs ≡ true → begins_with_ride (reverse gs) ≡ true
unfolding ends_with_ride
reverse_first [] e = false_is e
reverse_first (g ∷ gs) e = turned_first g gs [] e

-- ---- the legs of a search that found something are right
module _ (n : Net) (ok : Sound n) (mode : Mode) (v : Bool) (from to : List ℕ) where
  by_time : (t : TimeConstraint) → Ways n v t → Asked n (task_by t mode v from to)
      → 0 < (search n (task_by t mode v from to) listed).times.target.time.0
      → RightFor n t v from to (journey n (task_by t mode v from to) (search n (task_by t mode v from to) listed))
  unfolding task_by journey in_order soonest
  by_time (DepartAt t) ways a h =
      let q = task Departure mode v from to t.0 in
      let g = (search n q listed).times.target in
      let k = in_rounds n ok q a listed listed_fair h in
      let d = departing n ok mode v from to t.0 a listed listed_fair h in
      record {
        origin = d.origin;
        destination = g.stop;
        end = g.time.0;
        rides = suc g.round;
        leaves = d.listed;
        comes = chosen n ok q a listed listed_fair h;
        joined = chain_joined d.chain;
        in_time = tt;
        ride = reverse_first _ (first_rides n q (trail n ok q a listed listed_fair h));
        some_ride = omega arith;
        most = omega arith;
      }
  by_time (ArriveBy t) ways a h =
      let q = task Arrival mode v to from t.0 in
      let g = (search n q listed).times.target in
      let k = in_rounds n ok q a listed listed_fair h in
      let d = arriving n ok mode v to from t.0 ways a listed listed_fair h in
      record {
        origin = g.stop;
        destination = d.destination;
        end = d.end;
        rides = suc g.round;
        leaves = chosen n ok q a listed listed_fair h;
        comes = d.listed;
        joined = joined_sooner (chain_joined d.chain) (omega arith);
        in_time = d.in_time;
        ride = first_rides n q (trail n ok q a listed listed_fair h);
        some_ride = omega arith;
        most = omega arith;
      }

module _ (n : Net) (ok : Sound n) (places : SoundPlaces n) (q : Query) (unrefused : refusal n q ≡ 0)
    (ways : Ways n (may_walk q.walks) q.time) (found : 0 < (searched n q).times.target.time.0) where
  pub legs_right : Right n q (legs_of n q)
  unfolding legs_of searched task_of
  legs_right =
      by_time n ok q.mode (may_walk q.walks) (place_stops n q.from) (place_stops n q.to) q.time ways
      (asked n places q unrefused) found

-- the stops of a place that is asked for are there
pub origins_in : (n : Net) → SoundPlaces n → (q : Query) → refusal n q ≡ 0 → (s : ℕ) → Memᴰ s (place_stops n q.from) → s < n.stops
unfolding task_of task_by
origins_in n places q unrefused = go q.time refl (asked n places q unrefused)
  where
    go : (t : TimeConstraint) → q.time ≡ t → Asked n (task_by t q.mode (may_walk q.walks) (place_stops n q.from) (place_stops n q.to))
        → (s : ℕ) → Memᴰ s (place_stops n q.from) → s < n.stops
    go (DepartAt t) e a = a.starts_in
    go (ArriveBy t) e a = a.goals_in

pub search_gets_yes : (n : Net) → Sound n → SoundPlaces n → (q : Query) → refusal n q ≡ 0 → Ways n (may_walk q.walks) q.time
    → 0 < (searched n q).times.target.time.0 → verdict n q (legs_of n q) ≡ true
search_gets_yes n ok places q unrefused ways found =
    verdict_complete n ok q (origins_in n places q unrefused) (legs_of n q) (legs_right n ok places q unrefused ways found)
