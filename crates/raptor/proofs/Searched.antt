-- The search of a query, in the shapes that the functions ask for.
use Prim.Native.Nat.{ℕ, ◌<◌}
use mathlib.Core.Path.{◌≡◌, refl, sym, ap, ◌∙◌, subst}
use mathlib.Core.Bool.{Bool}
use mathlib.Core.List.{List}
use native.Mathlib.Omega.{arith}
use Rattle.shared.specs.declared.Time.{Time}
use Rattle.model.specs.declared.Direction.{Direction}
use Rattle.model.specs.declared.Direction.TheVariants.{Departure as Departing, Arrival as Arriving}
use Rattle.model.specs.declared.Location.{Location}
use Rattle.model.specs.declared.Location.TheVariants.{Stop, Area}
use Rattle.model.specs.declared.Mode.{Mode}
use Rattle.model.specs.declared.Query.{Query}
use Rattle.model.specs.declared.TimeConstraint.{TimeConstraint}
use Rattle.model.specs.declared.TimeConstraint.TheVariants.{Departure, Arrival}
use Rattle.model.specs.Tables.{Net}
use Rattle.model.specs.State.{Task, task, State}
use Rattle.model.specs.Places.{place_stops}
use Rattle.model.specs.Answer.{may_walk, moment_of, task_by, task_of, refusal, searched}
use Rattle.model.specs.Round.{listed}
use Rattle.model.specs.Search.{search}
use Rattle.repository.specs.Accepted.{Accepted}
use Rattle.repository.specs.NetOf.{net_of}
use Rattle.repository.proofs.Asked.{accepted_searchable}
use Rattle.raptor_query.specs.Areas.{area_part}
use Rattle.model.proofs.Asking.{stop_there}
use Rattle.raptor_query.specs.Directed.{direction_of}
use Rattle.raptor_rounds.specs.declared.Ask.{Ask}
use Rattle.base.specs.Below.{Below}
use Rattle.raptor.specs.Searching.{ask_of, Posed, Place}

module _ {n : Net} {stops : ℕ} {l : Location} {area : List ℕ} (p : Place n stops l area) where
  pub stop_known : {s : ℕ} → l ≡ Stop s → s < n.stops
  stop_known e = stop_there n e p.there

  -- the stops of a stop, as the tables list them
  pub stop_is : {s : ℕ} {ss : List ℕ} → l ≡ Stop s → ss ≡ place_stops n (Stop s) → ss ≡ place_stops n l
  stop_is e f = f ∙ ap (place_stops n) (sym e)

  -- the stops of an area, as they stand in the workspace
  pub area_is : {a : ℕ} → l ≡ Area a → area ≡ place_stops n l
  unfolding area_part place_stops
  area_is e = rw e (rw e at p.stands)

  pub place_below : {ss : List ℕ} → ss ≡ place_stops n l → Below stops ss
  place_below f = subst (Below stops) (sym f) p.below

-- ---- a query, as it is asked

pub ask_is : (n : Net) (q : Query) {stops routes : ℕ} {d : Direction} {walking : Bool} {t : Time} → stops ≡ n.stops → routes ≡ n.routes
    → d ≡ direction_of q.time → walking ≡ may_walk q.walks → t.0 ≡ moment_of q.time
    → record { stops = stops; routes = routes; direction = d; mode = q.mode; walking = walking; moment = t } ≡ ask_of n q
unfolding ask_of
ask_is n q es er ed ew et = λ i. record {
  stops = es i;
  routes = er i;
  direction = ed i;
  mode = q.mode;
  walking = ew i;
  moment = record { 0 = et i };
}

module _ (n : Net) (q : Query) {a : Ask} (e : a ≡ ask_of n q) where
  pub ask_stops : a.stops ≡ n.stops
  unfolding ask_of
  ask_stops = ap (λ (x : Ask). x.stops) e

  pub ask_routes : a.routes ≡ n.routes
  unfolding ask_of
  ask_routes = ap (λ (x : Ask). x.routes) e

pub posed_of : {w : List ℕ} {q : Query} {a : Ask} → Accepted w → a ≡ ask_of (net_of w) q → 0 ≡ refusal (net_of w) q → Posed w q a
posed_of h e f = record {
  known = λ u. h;
  tabled = record { known = λ u. record { searchable = accepted_searchable h; net_stops = ask_stops _ _ e; net_routes = ask_routes _ _ e } };
  asks = e;
  unrefused = sym f;
}

module _ {w : List ℕ} {q : Query} {a : Ask} (posed : Posed w q a) where
  pub posed_accepted : Accepted w
  posed_accepted = posed.known tt

  pub posed_stops : a.stops ≡ (net_of w).stops
  posed_stops = (posed.tabled.known tt).net_stops

  pub posed_routes : a.routes ≡ (net_of w).routes
  posed_routes = (posed.tabled.known tt).net_routes

  pub posed_direction : a.direction ≡ direction_of q.time
  unfolding ask_of
  posed_direction = ap (λ (x : Ask). x.direction) posed.asks

-- by its direction
module _ (mode : Mode) (walking : Bool) (ss gs : List ℕ) where
  departing : (c : TimeConstraint) → direction_of c ≡ Departing → task (direction_of c) mode walking ss gs (moment_of c) ≡ task_by c mode walking ss gs
  unfolding moment_of task_by
  departing (Departure t) e = refl
  departing (Arrival t) e = let z : ◌≡◌ {A = ℕ} 0 1 = cc in absurd (omega arith)

  arriving : (c : TimeConstraint) → direction_of c ≡ Arriving → task (direction_of c) mode walking gs ss (moment_of c) ≡ task_by c mode walking ss gs
  unfolding moment_of task_by
  arriving (Departure t) e = let z : ◌≡◌ {A = ℕ} 0 1 = cc in absurd (omega arith)
  arriving (Arrival t) e = refl

abbrev asked_by : List ℕ → List ℕ → Ask → Task
asked_by ss gs x = task x.direction x.mode x.walking ss gs x.moment.0

module _ (w : List ℕ) (q : Query) {a : Ask} (posed : Posed w q a) where
  pub departing_is : {ss gs : List ℕ} {s : State} → a.direction ≡ Departing → ss ≡ place_stops (net_of w) q.from → gs ≡ place_stops (net_of w) q.to
      → s ≡ search (net_of w) (task a.direction a.mode a.walking ss gs a.moment.0) listed → s ≡ searched (net_of w) q
  unfolding searched task_of ask_of
  departing_is {ss} {gs} d f h g =
      g ∙ ap (λ (x : Task). search (net_of w) x listed)
      (ap (asked_by ss gs) posed.asks ∙ rw (f, h) (departing q.mode (may_walk q.walks) (place_stops (net_of w) q.from) (place_stops (net_of w) q.to) q.time (sym (posed_direction posed) ∙ d)))

  pub arriving_is : {ss gs : List ℕ} {s : State} → a.direction ≡ Arriving → ss ≡ place_stops (net_of w) q.to → gs ≡ place_stops (net_of w) q.from
      → s ≡ search (net_of w) (task a.direction a.mode a.walking ss gs a.moment.0) listed → s ≡ searched (net_of w) q
  unfolding searched task_of ask_of
  arriving_is {ss} {gs} d f h g =
      g ∙ ap (λ (x : Task). search (net_of w) x listed)
      (ap (asked_by ss gs) posed.asks ∙ rw (f, h) (arriving q.mode (may_walk q.walks) (place_stops (net_of w) q.from) (place_stops (net_of w) q.to) q.time (sym (posed_direction posed) ∙ d)))
