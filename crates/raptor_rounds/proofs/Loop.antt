-- The round loop over the words and marks themselves: each law in the shape of what `search` and `rounds` ask.
use Prim.Native.Nat.{ℕ, ◌+◌, ◌≤◌, ◌<◌}
use mathlib.Core.Path.{◌≡◌, refl, ap, ◌∙◌}
use mathlib.Core.Bool.{Bool, true, false}
use mathlib.Core.List.{List}
use Rattle.model.specs.declared.Direction.{Direction}
use Rattle.model.specs.declared.Mode.{Mode}
use Rattle.model.specs.declared.Target.{Target}
use Rattle.model.specs.Limits.{MOST_ROUNDS}
use Rattle.model.specs.Lists.{any_of}
use Rattle.model.specs.Work.{state_of}
use Rattle.model.specs.Round.{aim, listed}
use Rattle.model.specs.Search.{search}
use Rattle.model.specs.State.{Task, task}
use Rattle.repository.specs.NetOf.{net_of}
use Rattle.repository.proofs.Sound.{searchable_sound}
use Rattle.allocator.specs.Layout.{view}
use Rattle.allocator.specs.Workspace.{state, best, mark, SameSlices, Becomes}
use Rattle.allocator.specs.declared.Workspace.{Workspace}
use Rattle.allocator.proofs.Becoming.{same_self, same_then}
use Rattle.allocator.specs.Operations.{cleared, swapped}
use Rattle.allocator.specs.Repeated.{started_all}
use Rattle.raptor_rounds.specs.declared.Ask.{Ask}
use Rattle.raptor_rounds.specs.Asked.{task_between, Begun}
use Rattle.raptor_rounds.specs.Tabled.{Tabled}
use Rattle.base.specs.Below.{Below}
use Rattle.raptor_rounds.specs.OneRound.{round_work, Ready}
use Rattle.raptor_rounds.proofs.Rest.{Rounds}
use Rattle.raptor_rounds.proofs.Steps.{tabled_same, below_same}
use Rattle.raptor_rounds.proofs.OneRound.{ready, search_start, search_on, search_ends, search_done}

-- no stop is chosen yet
abbrev pub none : Target
none = record { stop = 0; round = 0; time = record { 0 = 0 } }

-- the workspace at the start of round k, with the target `aimed`: it lies over what `first` lay over
pub record At (tables : List ℕ) (q : Task) (first : Workspace) (k : ℕ) (space : Workspace) (aimed : Target) : Type 0 where
  pub tabled : Tabled tables space.stops space.routes
  pub goals : Below space.stops q.goals
  pub rounds : Rounds (net_of tables) q k (state_of (state space) aimed)
  pub same : SameSlices first space

module _ {tables : List ℕ} {d : Direction} {mode : Mode} {walking : Bool} {ss gs : List ℕ} {t k : ℕ} {first space : Workspace} {aimed : Target}
    (h : At tables (task d mode walking ss gs t) first k space aimed) where
  pub at_tabled : Tabled tables space.stops space.routes
  at_tabled = h.tabled

  pub at_goals : Below space.stops gs
  at_goals = h.goals

  pub at_ready : k < MOST_ROUNDS → Ready d mode walking (net_of tables) k aimed.time.0 (state space)
  at_ready lt = ready (net_of tables) d mode walking ss gs t h.rounds lt refl

  pub at_next : {space' : Workspace} {aimed' : Target} {b : Bool} → k < MOST_ROUNDS → b ≡ any_of (mark space) → b ≡ true
      → Becomes (round_work d mode walking (net_of tables) k aimed.time.0) space space' → aimed' ≡ aim d k (best space') gs aimed
      → At tables (task d mode walking ss gs t) first (k + 1) space' aimed'
  unfolding view
  at_next lt eb is u v = record {
    tabled = tabled_same u.same h.tabled;
    goals = below_same u.same h.goals;
    rounds = search_on (net_of tables) d mode walking ss gs t h.rounds lt eb is u.holds v;
    same = same_then h.same u.same;
  }

  pub at_end : {space' : Workspace} {b : Bool} → k < MOST_ROUNDS → b ≡ any_of (mark space) → b ≡ false → Becomes (swapped space.stops) space space'
      → state_of (state space') aimed ≡ search (net_of tables) (task d mode walking ss gs t) listed
  unfolding view
  at_end lt eb is u =
      search_ends (net_of tables) d mode walking ss gs t h.rounds lt eb is
      (u.holds ∙ ap (λ (x : ℕ). swapped x (state space)) (h.tabled.known tt).net_stops)

  pub at_all : MOST_ROUNDS ≤ k → state_of (state space) aimed ≡ search (net_of tables) (task d mode walking ss gs t) listed
  at_all le = search_done (net_of tables) d mode walking ss gs t h.rounds le

-- the loop begins with what `search` has made
pub begun : {tables : List ℕ} (a : Ask) {ss gs : List ℕ} {w w₁ : Workspace} → Tabled tables w.stops w.routes → Below w.stops ss
    → Below w.stops gs → 0 < a.moment.0 → state w ≡ cleared w.stops w.routes a.direction
    → Becomes (started_all a.moment.0 ss) w w₁ → Begun tables a ss gs w₁
begun a {ss = ss} x s g t e f = record {
  tabled = tabled_same f.same x;
  starts_in = below_same f.same s;
  goals_in = below_same f.same g;
  moment = t;
  holds = f.holds ∙ ap (started_all a.moment.0 ss) (rw (f.same.stops_same, f.same.routes_same) e);
}

pub at_start : {tables : List ℕ} (a : Ask) {ss gs : List ℕ} {w : Workspace} → Begun tables a ss gs w
    → At tables (task_between a ss gs) w 0 w none
at_start {tables} a {ss = ss} {gs = gs} b =
    let x = b.tabled.known tt in
    record {
      tabled = b.tabled;
      goals = b.goals_in;
      rounds =
          search_start (net_of tables) a.direction a.mode a.walking ss gs a.moment.0 (searchable_sound x.searchable)
          (rw (← x.net_stops) b.starts_in) (rw (← x.net_stops) b.goals_in) b.moment refl
          (rw (← x.net_stops, ← x.net_routes) b.holds);
      same = same_self;
    }
