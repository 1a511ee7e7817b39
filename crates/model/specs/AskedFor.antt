-- The journey that a query asks for: demand 3's words for "depart at", and document 01's clause for "arrive by", which has a condition.
use Rattle.std.specs.Prelude.{ℕ, Bool, List}
use Rattle.model.specs.declared.Leg.{Leg}
use Rattle.model.specs.declared.Query.{Query}
use Rattle.model.specs.declared.TimeConstraint.{TimeConstraint}
use Rattle.model.specs.declared.TimeConstraint.TheVariants.{Departure, Arrival}
use Rattle.model.specs.Tables.{Net}
use Rattle.model.specs.Places.{place_stops}
use Rattle.model.specs.Journey.{Departing, Arriving, BothWays}
use Rattle.model.specs.Answer.{may_walk}

-- from the stops `from` to the stops `to`; "For arrival queries .. the journey part .. needs each footpath listed both ways"
abbrev pub AskedAt : TimeConstraint → Net → Bool → List ℕ → List ℕ → ℕ → ℕ → ℕ → List Leg → Type 0
AskedAt (Departure m) n walking from to chosen time rides gs = Departing n walking from m.0 chosen time rides gs
AskedAt (Arrival m) n walking from to chosen time rides gs = BothWays n walking → Arriving n walking to m.0 chosen time rides gs

abbrev pub AskedFor : Net → Query → ℕ → ℕ → ℕ → List Leg → Type 0
AskedFor n q chosen time rides gs =
    AskedAt q.time n (may_walk q.walks) (place_stops n q.from) (place_stops n q.to) chosen time rides gs
