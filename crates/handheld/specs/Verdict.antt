-- How it is decided whether legs are right: leg by leg, in riding order.
use Rattle.std.specs.Prelude.{ℕ, suc, Bool, true, false, cond, ◌&&◌, Option, None, Some, List, [], ◌∷◌, leb, eqb}
use Rattle.model.specs.declared.Leg.{Leg}
use Rattle.model.specs.declared.LegType.{LegType}
use Rattle.model.specs.declared.LegType.TheVariants.{Transit, Transfer, Walk}
use Rattle.model.specs.declared.Query.{Query}
use Rattle.model.specs.declared.TimeConstraint.{TimeConstraint}
use Rattle.model.specs.declared.TimeConstraint.TheVariants.{Departure, Arrival}
use Rattle.model.specs.Tables.{Net}
use Rattle.model.specs.Limits.{MOST_ROUNDS}
use Rattle.model.specs.Places.{place_stops}
use Rattle.model.specs.Answer.{may_walk}
use Rattle.handheld.specs.declared.Led.{Led}
use Rattle.handheld.specs.Any.{any}
use Rattle.handheld.specs.Right.{is_ride, soonest}
use Rattle.handheld.specs.Fitting.{fits_leg}

-- stop s is one of the stops
unfoldable pub is_listed : ℕ → List ℕ → Bool
is_listed s l = any (eqb s) l

-- who has made k rides, and one more if the leg is a ride
unfoldable pub rides_with : LegType → ℕ → ℕ
rides_with (Transit v) k = suc k
rides_with Transfer k = k
rides_with Walk k = k

-- a leg may follow: it leaves where one is, no sooner than one is there, with it there are at most 15 rides, and it fits the tables
unfoldable pub follows : Net → Bool → Leg → Led → Bool
follows n walking g e =
    eqb g.from e.stop && (leb e.moment g.departure.0
    && (leb (rides_with g.kind e.rides) MOST_ROUNDS && fits_leg n walking g.kind g))

-- where it leads
unfoldable pub led : Leg → Led → Led
led g e = record { stop = g.to; moment = g.arrival.0; rides = rides_with g.kind e.rides; rode = is_ride g.kind }

-- where it leads, if it may follow
unfoldable pub leg_on : Net → Bool → Leg → Led → Option Led
leg_on n walking g e = cond (follows n walking g e) (Some (led g e)) None

-- where all of them lead, if each may follow
unfoldable pub follow : Net → Bool → List Leg → Led → Option Led
follow n walking [] e = Some e
follow n walking (g ∷ gs) e = elim (leg_on n walking g e) [ Some f ↦ follow n walking gs f | None ↦ None ]

-- "Departure journeys begin with a ride, arrival journeys end with one", and end by the moment that was asked
unfoldable pub may_begin : TimeConstraint → Leg → Bool
may_begin (Departure t) g = is_ride g.kind
may_begin (Arrival t) g = true

unfoldable pub may_end : TimeConstraint → Led → Bool
may_end (Departure t) e = true
may_end (Arrival t) e = e.rode && leb e.moment t.0

-- who is at the first leg's stop, before any ride
unfoldable pub at_start : Query → Leg → Led
at_start q g = record { stop = g.from; moment = soonest q.time; rides = 0; rode = false }

-- the legs lead to a destination, and may end there
unfoldable pub comes_in : Net → Query → Option Led → Bool
comes_in n q None = false
comes_in n q (Some e) = may_end q.time e && is_listed e.stop (place_stops n q.to)

unfoldable pub verdict : Net → Query → List Leg → Bool
verdict n q [] = false
verdict n q (g ∷ gs) =
    may_begin q.time g && (is_listed g.from (place_stops n q.from)
    && comes_in n q (follow n (may_walk q.walks) (g ∷ gs) (at_start q g)))
