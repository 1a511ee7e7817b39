-- One round of the program is the model's, and what the model knows of it is what its parts ask.
use Prim.Native.Nat.{ℕ, suc, ◌+◌, ◌*◌, ◌≤◌, ◌<◌}
use mathlib.Core.Path.{◌≡◌, refl, sym, ap, ◌∙◌, subst}
use mathlib.Core.Bool.{Bool, true, false}
use mathlib.Core.List.Memᴰ
use mathlib.Core.List.{List, [], ◌∷◌, Memᴰ}
use native.Mathlib.Omega.{arith}
use native.Mathlib.Nat.{mul-le-mul_right}
use lib.ListN.{length}
use Rattle.model.specs.declared.Direction.{Direction}
use Rattle.model.specs.declared.Mode.{Mode}
use Rattle.model.specs.declared.Target.{Target}
use Rattle.model.specs.Tables.{Net}
use Rattle.model.specs.Limits.{MOST_ROUNDS}
use Rattle.model.specs.Lists.{any_of}
use Rattle.model.specs.State.{task}
use Rattle.model.specs.Work.{Work, work_of, state_of}
use Rattle.model.specs.Round.{aim, listed, picks, opened, ridden, footed, aimed as aimed_times, round_times, round, ride_half, ridden_parents}
use Rattle.model.specs.Search.{begun, ended, search}
use Rattle.model.specs.Sound.{Sound}
use Rattle.model.proofs.Orders.{listed_fair}
use Rattle.model.specs.Choosing.{Placed}
use Rattle.model.proofs.Choosing.{picks_placed}
use Rattle.allocator.specs.Operations.{cleared, swapped, holding}
use Rattle.allocator.specs.Repeated.{started_all}
use Rattle.allocator.proofs.Links.{begun_is, ended_is}
use Rattle.explorer.specs.Applied.{opened_work}
use Rattle.explorer_choosing.specs.Chosen.{opened_by}
use Rattle.explorer_choosing.proofs.Opened.{opened_by_lem}
use Rattle.explorer_footpaths.specs.Footing.{Footing}
use Rattle.explorer_footpaths.proofs.Footing.{ridden_footing}
use Rattle.explorer.specs.Fused.{rides_work, feet_work}
use Rattle.explorer.proofs.Fused.{rides_fused, round_fused}
use Rattle.base.specs.Below.{Below}
use Rattle.raptor_rounds.specs.OneRound.{round_work, Ready}
use Rattle.raptor_rounds.proofs.Rest.{Rounds, rounds_start, rounds_next, rounds_end, rounds_all}

module _ (n : Net) (d : Direction) (mode : Mode) (walking : Bool) (ss gs : List ℕ) (t : ℕ) where
  module _ {k : ℕ} {w : Work} {aimed : Target} (h : Rounds n (task d mode walking ss gs t) k (state_of w aimed)) where
    -- one round of the program is the model's
    round_is : work_of (round n (task d mode walking ss gs t) listed k (state_of w aimed)) ≡ round_work d mode walking n k aimed.time.0 w
    unfolding round_work
    round_is =
        round_fused n (task d mode walking ss gs t) k (state_of w aimed)
        ∙ ap (λ (u : Work). feet_work d n k aimed.time.0 walking (holding (rides_work d n k aimed.time.0 u)))
        (opened_by_lem n (task d mode walking ss gs t) w)

    aimed_is : (round n (task d mode walking ss gs t) listed k (state_of w aimed)).times.target
        ≡ aim d k (work_of (round n (task d mode walking ss gs t) listed k (state_of w aimed))).labels.best gs aimed
    unfolding round round_times aimed_times footed ridden opened
    aimed_is = refl

    pub round_state : {u : Work} {aimed' : Target} → u ≡ round_work d mode walking n k aimed.time.0 w → aimed' ≡ aim d k u.labels.best gs aimed
        → state_of u aimed' ≡ round n (task d mode walking ss gs t) listed k (state_of w aimed)
    round_state {u} {aimed'} e f =
        let same : u ≡ work_of (round n (task d mode walking ss gs t) listed k (state_of w aimed)) = e ∙ sym round_is in
        let aims : aimed' ≡ (round n (task d mode walking ss gs t) listed k (state_of w aimed)).times.target =
        f ∙ ap (λ (x : Work). aim d k x.labels.best gs aimed) same ∙ sym aimed_is in
        λ i. state_of (same i) (aims i)

    -- what the model knows is what the parts of the round ask
    pub ready : {target : ℕ} → k < MOST_ROUNDS → target ≡ aimed.time.0 → Ready d mode walking n k target w
    ready {target} lt e = record {
      early = lt;
      placed = fit;
      footing = rw e (subst (λ (u : Work). Footing n.stops (holding u)) (sym left) foot);
    }
      where
        fit : Placed d n (opened_by mode d n w)
        fit = unfold opened_by opened_work opened picks in
            picks_placed n (task d mode walking ss gs t) (state_of w aimed).times h.known.route_marks (opened_by mode d n w) refl refl

        fits : k * n.stops + n.stops ≤ length w.parents
        fits = rw h.known.long (omega (arith, mul-le-mul_right {m = suc k} {n = 15} n.stops lt))

        left : rides_work d n k aimed.time.0 (opened_by mode d n w)
            ≡ work_of (record {
              times = ridden n (task d mode walking ss gs t) listed k (state_of w aimed).times;
              parents = ridden_parents n (task d mode walking ss gs t) listed k (state_of w aimed).times w.parents;
            })
        left = unfold opened_by opened_work opened picks ridden ridden_parents ride_half listed in
            rides_fused d n k (record { times = opened n (task d mode walking ss gs t) (state_of w aimed).times; parents = w.parents })

        foot : Footing n.stops (holding (work_of (record {
          times = ridden n (task d mode walking ss gs t) listed k (state_of w aimed).times;
          parents = ridden_parents n (task d mode walking ss gs t) listed k (state_of w aimed).times w.parents;
        })))
        foot =
            ridden_footing n h.sound (task d mode walking ss gs t) listed listed_fair k (state_of w aimed).times w.parents _
            h.known.whole fits h.known.route_marks

    -- the round loop
    pub search_on : {u : Work} {aimed' : Target} {b : Bool} → k < MOST_ROUNDS → b ≡ any_of w.labels.mark → b ≡ true
        → u ≡ round_work d mode walking n k aimed.time.0 w → aimed' ≡ aim d k u.labels.best gs aimed
        → Rounds n (task d mode walking ss gs t) (k + 1) (state_of u aimed')
    search_on lt eb is e f = rounds_next h lt (sym eb ∙ is) (round_state e f)

    pub search_ends : {u : Work} {b : Bool} → k < MOST_ROUNDS → b ≡ any_of w.labels.mark → b ≡ false → u ≡ swapped n.stops w
        → state_of u aimed ≡ search n (task d mode walking ss gs t) listed
    unfolding ended
    search_ends {u} lt eb is e =
        rounds_end h lt (sym eb ∙ is)
        (ap (λ (x : Work). state_of x aimed) (e ∙ ended_is n (task d mode walking ss gs t) (state_of w aimed)))

    pub search_done : MOST_ROUNDS ≤ k → state_of w aimed ≡ search n (task d mode walking ss gs t) listed
    search_done le = rounds_all h le

  below_in : (l : List ℕ) → Below n.stops l → (s : ℕ) → Memᴰ s l → s < n.stops
  below_in [] b s m = absurd (Memᴰ.not-nil m)
  below_in (x ∷ l) b s (Memᴰ.head e) = rw e (b.below 0 (omega arith))
  below_in (x ∷ l) b s (Memᴰ.tail m) = below_in l (record { below = λ i lt. b.below (suc i) (omega arith) }) s m

  pub search_start : {w u : Work} → Sound n → Below n.stops ss → Below n.stops gs → 0 < t
      → u ≡ cleared n.stops n.routes d → w ≡ started_all t ss u
      → Rounds n (task d mode walking ss gs t) 0 (state_of w (record { stop = 0; round = 0; time = record { 0 = 0 } }))
  unfolding begun
  search_start {w} {u} ok a b c e f =
      rounds_start ok (record { starts_in = below_in ss a; goals_in = below_in gs b; moment = c })
      (ap (λ (x : Work). state_of x (record { stop = 0; round = 0; time = record { 0 = 0 } }))
      (f ∙ ap (started_all t ss) e ∙ sym (begun_is n (task d mode walking ss gs t))))
