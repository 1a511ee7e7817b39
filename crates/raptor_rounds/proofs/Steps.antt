-- The steps of a round, one after the other: each law in the shape of what `next_round` and its parts ask.
use Prim.Native.Nat.{ℕ, ◌<◌}
use mathlib.Core.Path.{sym, ◌∙◌, subst}
use mathlib.Core.Bool.{Bool}
use mathlib.Core.List.{List}
use Rattle.model.specs.declared.Direction.{Direction}
use Rattle.model.specs.declared.Mode.{Mode}
use Rattle.model.specs.Limits.{MOST_ROUNDS}
use Rattle.model.specs.Tables.{Net}
use Rattle.model.specs.Work.{Work}
use Rattle.model.specs.Choosing.{Placed}
use Rattle.repository.specs.NetOf.{net_of}
use Rattle.allocator.specs.Workspace.{state, SameSlices, Becomes}
use Rattle.allocator.specs.declared.Workspace.{Workspace}
use Rattle.allocator.specs.Operations.{holding}
use Rattle.explorer.specs.declared.Round.{Round}
use Rattle.explorer.specs.Fixed.{Fixed, InRound}
use Rattle.explorer.proofs.Fixed.{fixed_same, in_round_same}
use Rattle.explorer.specs.Fused.{rides_work}
use Rattle.explorer_choosing.specs.Chosen.{opened_by}
use Rattle.explorer_footpaths.specs.Footing.{Footing}
use Rattle.base.specs.Below.{Below}
use Rattle.raptor_rounds.specs.Tabled.{Tabled}
use Rattle.raptor_rounds.specs.OneRound.{Ready}

-- ---- what stays fixed

pub tabled_fixed : {w : List ℕ} {stops routes : ℕ} → Tabled w stops routes → Fixed w stops routes
tabled_fixed x = x.known tt

module _ {w₁ w' : Workspace} (s : SameSlices w₁ w') where
  pub tabled_same : {w : List ℕ} → Tabled w w₁.stops w₁.routes → Tabled w w'.stops w'.routes
  tabled_same x = record { known = λ _. fixed_same s (x.known tt) }

  pub in_round : {w : List ℕ} (round : Round) → Tabled w w₁.stops w₁.routes → round.number < MOST_ROUNDS → InRound w w'.stops w'.routes round
  in_round round x lt = in_round_same s (record { fixed = x.known tt; number = lt })

  pub below_same : {l : List ℕ} → Below w₁.stops l → Below w'.stops l
  below_same b = rw s.stops_same b

-- ---- what a half finds

pub ready_placed : (mode : Mode) (d : Direction) (n : Net) {w w₁ : Workspace} {walking : Bool} {k target : ℕ} → Becomes (opened_by mode d n) w w₁
    → Ready d mode walking n k target (state w) → Placed d n (state w₁)
ready_placed mode d n opens h = subst (λ (x : Work). Placed d n x) (sym opens.holds) h.placed

pub footing_held : {w w₁ : Workspace} → Becomes holding w w₁ → Footing w.stops (holding (state w)) → Footing w₁.stops (state w₁)
footing_held {w} {w₁} p h =
    subst (λ (i : ℕ). Footing i (state w₁)) (sym p.same.stops_same) (subst (Footing w.stops) (sym p.holds) h)

pub ready_footing : (tables : List ℕ) (d : Direction) (mode : Mode) (walking : Bool) (k target : ℕ) {w w₁ : Workspace}
    → Becomes (λ x. rides_work d (net_of tables) k target (opened_by mode d (net_of tables) x)) w w₁
    → Tabled tables w.stops w.routes → Ready d mode walking (net_of tables) k target (state w) → Footing w₁.stops (holding (state w₁))
ready_footing tables d mode walking k target {w} {w₁} rides x h =
    subst (λ (i : ℕ). Footing i (holding (state w₁))) (sym (rides.same.stops_same ∙ (x.known tt).net_stops))
    (subst (λ (x : Work). Footing (net_of tables).stops (holding x)) (sym rides.holds) h.footing)
