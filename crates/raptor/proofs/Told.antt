-- What a search that has run is told as: the journey traced from the target, and the workspace as it stands.
use Prim.Native.Nat.{ℕ, ◌<◌}
use mathlib.Core.Path.{◌≡◌, refl, sym, ap, ◌∙◌, subst}
use mathlib.Core.Bool.{Bool}
use mathlib.Core.List.{List, ◌++◌}
use lib.ListN.{length, take, drop}
use lib.Seq.{take_at, drop_at}
use Rattle.model.specs.declared.Direction.{Direction}
use Rattle.model.specs.declared.Mode.{Mode}
use Rattle.model.specs.declared.Query.{Query}
use Rattle.model.specs.declared.Target.{Target}
use Rattle.model.specs.declared.TimeConstraint.{TimeConstraint}
use Rattle.model.specs.declared.TimeConstraint.TheVariants.{Departure, Arrival}
use Rattle.model.specs.Limits.{MOST_ROUNDS}
use Rattle.model.specs.Tables.{Net}
use Rattle.model.specs.State.{State}
use Rattle.model.specs.Work.{work_of, state_of}
use Rattle.model.specs.Back.{trace, journey}
use Rattle.model.specs.Answer.{Answer, may_walk, task_by, task_of, refusal, searched, legs_of, reply}
use Rattle.model.specs.Left.{placed, workspace_of, written}
use Rattle.model.specs.Places.{place_stops}
use Rattle.model.specs.Round.{listed}
use Rattle.model.proofs.Asking.{asked}
use Rattle.model.proofs.Orders.{listed_fair}
use Rattle.model.proofs.Search.{Reached, reached}
use Rattle.repository.specs.NetOf.{net_of}
use Rattle.repository.proofs.Sound.{accepted_sound, accepted_sound_places}
use Rattle.allocator.specs.Layout.{Sized, view, parents_of}
use Rattle.allocator.specs.Tidy.{Tidy}
use Rattle.allocator.specs.Does.{Usable}
use Rattle.path.specs.Traced.{Traced}
use Rattle.path.proofs.Reached.{reached_traced}
use Rattle.raptor_query.specs.Directed.{direction_of}
use Rattle.raptor_reply.specs.Chosen.{Chosen, legs_back}
use Rattle.raptor_rounds.specs.declared.Ask.{Ask}
use Rattle.raptor.specs.Lent.{lent}
use Rattle.raptor.specs.Solved.{holds, Ended}
use Rattle.raptor.specs.Searching.{Posed, Ran}
use Rattle.raptor.proofs.Searched.{posed_accepted, posed_stops, posed_routes, posed_direction}
use Rattle.raptor.proofs.Placing.{from_there, placed_long}

-- the direction of a query's task
directed : (c : TimeConstraint) (mode : Mode) (walks : Bool) (from to : List ℕ) → (task_by c mode walks from to).direction ≡ direction_of c
unfolding task_by
directed (Departure t) mode walks from to = refl
directed (Arrival t) mode walks from to = refl

task_directed : (n : Net) (q : Query) → (task_of n q).direction ≡ direction_of q.time
unfolding task_of
task_directed n q = directed q.time q.mode (may_walk q.walks) (place_stops n q.from) (place_stops n q.to)

module _ {w : List ℕ} {q : Query} {ask : Ask} (posed : Posed w q ask) (ws ms : List ℕ) {aimed : Target}
    (e : state_of (view ask.stops ask.routes ws ms) aimed ≡ searched (net_of w) q) where
  abbrev stops : ℕ
  stops = ask.stops

  abbrev routes : ℕ
  routes = ask.routes

  abbrev d : Direction
  d = ask.direction

  z : refusal (net_of w) q ≡ 0
  z = posed.unrefused

  ed : ask.direction ≡ direction_of q.time
  ed = posed_direction posed

  as_net : (P : ℕ → ℕ → Type 0) → P stops routes → P (net_of w).stops (net_of w).routes
  as_net P u = subst (λ (i : ℕ). P (net_of w).stops i) (posed_routes posed) (subst (λ (i : ℕ). P i routes) (posed_stops posed) u)

  found : aimed ≡ (searched (net_of w) q).times.target
  found = ap (λ (s : State). s.times.target) e

  parents : parents_of stops routes ws ≡ (searched (net_of w) q).parents
  unfolding view
  parents = ap (λ (s : State). s.parents) e

  module _ (h : 0 < aimed.time.0) where
    back : Reached (net_of w) (task_of (net_of w) q) MOST_ROUNDS (searched (net_of w) q).parents (searched (net_of w) q).times.target
    unfolding searched
    back =
        let places = accepted_sound_places (posed_accepted posed) in
        reached (net_of w) (task_of (net_of w) q) (accepted_sound (posed_accepted posed)) (asked (net_of w) places q z) listed listed_fair (rw found at h)

    traced : Traced d stops (parents_of stops routes ws) aimed.round aimed.stop
    traced = rw (parents, found, ed, ← (task_directed (net_of w) q), posed_stops posed) (reached_traced (net_of w) (task_of (net_of w) q) back)

  -- where a stop is chosen, the parents lead from it to a beginning
  pub is_chosen : Chosen d stops (parents_of stops routes ws) aimed
  is_chosen = record { traced = λ h. traced h; in_rounds = λ h. rw found (back h).round }

  legs_are : legs_back d stops (parents_of stops routes ws) aimed ≡ legs_of (net_of w) q
  unfolding legs_back legs_of journey trace
  legs_are = rw (parents, found, ed, ← (task_directed (net_of w) q), posed_stops posed)

  module _ {ps : List ℕ} (buffer' : List ℕ) (ep : ps ≡ placed (net_of w) q.from ++ placed (net_of w) q.to) (left : Usable stops routes ws ms) where
    long : length (placed (net_of w) q.from) ≡ stops
    long = placed_long (posed_accepted posed) q.from (from_there posed) ∙ sym (posed_stops posed)

    work : view stops routes ws ms ≡ work_of (searched (net_of w) q)
    work = ap work_of e

    held : holds stops routes (lent ws ms ps buffer') ≡ workspace_of (net_of w) q (searched (net_of w) q)
    unfolding holds workspace_of
    held =
        let a : take stops ps ≡ placed (net_of w) q.from = ap (take stops) ep ∙ take_at (placed (net_of w) q.from) _ stops long in
        let b : drop stops ps ≡ placed (net_of w) q.to = ap (drop stops) ep ∙ drop_at (placed (net_of w) q.from) _ stops long in
        λ i. record { work = work i; origins = a i; goals = b i }

    is_ended : Ended (net_of w) q (lent ws ms ps buffer')
    is_ended = record {
      ends = as_net (λ stops routes. holds stops routes (lent ws ms ps buffer') ≡ workspace_of (net_of w) q (searched (net_of w) q)) held;
      fits = as_net (λ stops routes. Sized stops routes ws ms) left.sized;
      tidy = as_net (λ stops routes. Tidy stops routes ws ms) left.tidy;
    }

    pub ran : {r : Answer} {buffer : List ℕ} → r ≡ reply (length buffer) aimed (legs_back d stops (parents_of stops routes ws) aimed)
        → buffer' ≡ written r (legs_back d stops (parents_of stops routes ws) aimed) buffer → Ran (net_of w) q buffer r (lent ws ms ps buffer')
    ran a b = record { answers = rw (← found, ← legs_are) a; journey = rw (← legs_are) b; ended = is_ended }
