-- What is right: "Yes exactly when the legs form a journey as demand 3, or for arrival queries 01's arrival clause, describes, with 1 to 15
-- rides and any origin and destination of the query. .. and no reported moment is compared."
use Rattle.std.specs.Prelude.{ℕ, zero, suc, ◌≤◌, ◌≡◌, Bool, true, false}
use mathlib.Core.List.{List, [], ◌∷◌, Memᴰ}
use Rattle.model.specs.declared.Leg.{Leg}
use Rattle.model.specs.declared.LegType.{LegType}
use Rattle.model.specs.declared.LegType.TheVariants.{Transit, Transfer, Walk}
use Rattle.model.specs.declared.Query.{Query}
use Rattle.model.specs.declared.TimeConstraint.{TimeConstraint}
use Rattle.model.specs.declared.TimeConstraint.TheVariants.{Departure, Arrival}
use Rattle.model.specs.Tables.{Net}
use Rattle.model.specs.Limits.{MOST_ROUNDS}
use Rattle.model.specs.Places.{place_stops}
use Rattle.model.specs.Answer.{may_walk}
use Rattle.model.specs.Journey.{Ridden, Walked, BothWays}

-- `Joined n walking s x u y k gs`: who is at stop s at the moment x comes by the legs gs to stop u at the moment y, with k rides. "Legs join
-- end to start", each leaves no stop before reaching it, "a footpath leg lasts exactly its span" (`Walked`), and "a ride is right if some
-- earlier and later position of its trip fit its stops and moments" (`Ridden`). One may wait before any leg: that footpaths keep to the
-- moments of trips (`Chain` of `model`) is the search's way, and nobody asks it of a handheld
pub data Joined (n : Net) (walking : Bool) : ℕ → ℕ → ℕ → ℕ → ℕ → List Leg → Type 0 where
  done : {s x : ℕ} → Joined n walking s x s x zero []
  by_ride : {s x u y k : ℕ} {gs : List Leg} (g : Leg) → Ridden n g → g.from ≡ s → x ≤ g.departure.0
      → Joined n walking g.to g.arrival.0 u y k gs → Joined n walking s x u y (suc k) (g ∷ gs)
  by_path : {s x u y k : ℕ} {gs : List Leg} (g : Leg) → Walked n walking g.from g.to g → g.from ≡ s → x ≤ g.departure.0
      → Joined n walking g.to g.arrival.0 u y k gs → Joined n walking s x u y k (g ∷ gs)

unfoldable pub is_ride : LegType → Bool
is_ride (Transit v) = true
is_ride Transfer = false
is_ride Walk = false

unfoldable pub begins_with_ride : List Leg → Bool
begins_with_ride [] = false
begins_with_ride (g ∷ gs) = is_ride g.kind

unfoldable pub ends_with_ride : List Leg → Bool
ends_with_ride [] = false
ends_with_ride (g ∷ []) = is_ride g.kind
ends_with_ride (g ∷ h ∷ gs) = ends_with_ride (h ∷ gs)

-- "Departure journeys begin with a ride, arrival journeys end with one." So "No legs is a no."
abbrev pub RideInPlace : TimeConstraint → List Leg → Type 0
RideInPlace (Departure t) gs = begins_with_ride gs ≡ true
RideInPlace (Arrival t) gs = ends_with_ride gs ≡ true

-- a departure journey starts "no sooner than asked"; an arrival journey may start at any moment
unfoldable pub soonest : TimeConstraint → ℕ
soonest (Departure t) = t.0
soonest (Arrival t) = 0

-- an arrival journey ends "no later than asked"; a departure journey may end at any moment
abbrev pub InTime : TimeConstraint → ℕ → Type 0
InTime (Departure t) y = Unit {0}
InTime (Arrival t) y = y ≤ t.0

-- the legs are a journey from one of the stops `from` to one of the stops `to`, by the time that was asked
pub record RightFor (n : Net) (t : TimeConstraint) (walking : Bool) (from to : List ℕ) (gs : List Leg) : Type 0 where
  pub origin : ℕ
  pub destination : ℕ
  pub end : ℕ
  pub rides : ℕ
  pub leaves : Memᴰ origin from
  pub comes : Memᴰ destination to
  pub joined : Joined n walking origin (soonest t) destination end rides gs
  pub in_time : InTime t end
  pub ride : RideInPlace t gs
  pub some_ride : 1 ≤ rides
  pub most : rides ≤ MOST_ROUNDS

-- they are a journey that the query asks for
abbrev pub Right : Net → Query → List Leg → Type 0
Right n q gs = RightFor n q.time (may_walk q.walks) (place_stops n q.from) (place_stops n q.to) gs

-- what is asked of the footpaths that the query allows, so that "everything our search writes gets a yes (arrival: with footpaths listed both
-- ways)"
abbrev pub Ways : Net → Bool → TimeConstraint → Type 0
Ways n walking (Departure t) = Unit {0}
Ways n walking (Arrival t) = BothWays n walking
