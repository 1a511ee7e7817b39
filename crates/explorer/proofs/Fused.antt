-- What the program does in one pass, the model does in two: the strict test against the best moment of then implies the one against the best
-- before the half-round, and nothing that a half-round reads is changed by applying.
use Prim.Native.Nat.{ℕ, ◌*◌}
use mathlib.Core.Path.{◌≡◌, refl, sym, ap, ◌∙◌}
use mathlib.Core.Bool.{Bool, true, false, cond}
use mathlib.Core.Logic.{inl, inr}
use Rattle.std.specs.Prelude.{Option, Some, None}
use mathlib.Core.List.{List, [], ◌∷◌, ◌++◌}
use lib.ListN.{get_or}
use Rattle.base.proofs.Choice.{cond_elim}
use Rattle.model.specs.declared.Direction.{Direction}
use Rattle.model.specs.declared.Leg.{Leg}
use Rattle.model.specs.declared.LegType.{LegType}
use Rattle.model.specs.declared.LegType.TheVariants.{Transfer, Walk}
use Rattle.model.specs.Tables.{Foot, Net}
use Rattle.model.specs.Lists.{gather, set_in}
use Rattle.model.specs.Moments.{better, ahead}
use Rattle.model.specs.State.{Task, Labels, Times, State, Proposal}
use Rattle.model.specs.Applying.{wins, store, apply1, apply_all, keep_all}
use Rattle.model.specs.Legs.{leg_of, propose}
use Rattle.model.specs.Rides.{Aboard, board, alight, scan, course, rides}
use Rattle.model.specs.Footpaths.{walked, paths, footpaths}
use Rattle.model.specs.Round.{listed, picks, opened, ride_half, foot_half, ridden, footed, aimed, round_times, ridden_parents}
use Rattle.model.specs.Round.{round_parents, round}
use Rattle.model.specs.Work.{Work, work_of}
use Rattle.model.proofs.Better.{Improves, better_than, beaten}
use Rattle.model.proofs.Applied.{apply1_off}
use Rattle.model.proofs.Choosing.{get_d_set_or}
use Rattle.allocator.specs.Operations.{applied, holding}
use Rattle.allocator.specs.Parts.{with_held, with_held_mark}
use Rattle.explorer.specs.Applied.{with, opened_work}
use Rattle.explorer.specs.Fused.{offered, alight_work, scan_work, route_work, routes_work, rides_work, foot_work, paths_work}
use Rattle.explorer.specs.Fused.{stop_work, stops_work, feet_work}

-- lists of proposals joined
apply_all_join : (d : Direction) (ps qs : List Proposal) (l : Labels) → apply_all d (ps ++ qs) l ≡ apply_all d qs (apply_all d ps l)
unfolding apply_all
apply_all_join d [] qs l = refl
apply_all_join d (p ∷ ps) qs l = apply_all_join d ps qs _

keep_all_join : (d : Direction) (row : ℕ) (ps qs : List Proposal) (l : Labels) (w : List (Option Leg))
    → keep_all d row (ps ++ qs) l w ≡ keep_all d row qs (apply_all d ps l) (keep_all d row ps l w)
unfolding apply_all keep_all
keep_all_join d row [] qs l w = refl
keep_all_join d row (p ∷ ps) qs l w = keep_all_join d row ps qs _ _

-- the model's half-round on a workspace
abbrev half : Direction → ℕ → List Proposal → Work → Work
half d row ps w = with w (apply_all d ps w.labels) (keep_all d row ps w.labels w.parents)

half_join : (d : Direction) (row : ℕ) (ps qs : List Proposal) (w : Work) → half d row (ps ++ qs) w ≡ half d row qs (half d row ps w)
half_join d row ps qs w = λ i.
    with w (apply_all_join d ps qs w.labels i) (keep_all_join d row ps qs w.labels w.parents i)

-- no best moment is worse than the one before the half-round
pub record Ahead (d : Direction) (before : List ℕ) (l : Labels) : Type 0 where
  pub improves : (s : ℕ) → Improves d (get_or l.best s 0) (get_or before s 0)

apply1_ahead : (d : Direction) (before : List ℕ) (s m : ℕ) (l : Labels) → Ahead d before l → Ahead d before (apply1 d s m l)
unfolding apply1 store wins
apply1_ahead d before s m l a =
    cond_elim (Ahead d before) (wins d s m l) _ _
    (λ e. record {
      improves = λ u.
          get_d_set_or (λ x. Improves d x (get_or before u 0)) l.best s u m 0
          (λ x. inr (better_than d _ _ _ (rw x at e) (a.improves u))) (a.improves u);
    })
    (λ e. a)

apply_all_ahead : (d : Direction) (before : List ℕ) (ps : List Proposal) (l : Labels) → Ahead d before l → Ahead d before (apply_all d ps l)
unfolding apply_all
apply_all_ahead d before [] l a = a
apply_all_ahead d before (p ∷ ps) l a = apply_all_ahead d before ps _ (apply1_ahead d before p.stop p.moment l a)

-- a proposal that does not win changes nothing
pub idle : (d : Direction) (row s m : ℕ) (g : Leg) (w : Work) → wins d s m w.labels ≡ false → applied d row s m g w ≡ w
unfolding applied
idle d row s m g w e = rw (apply1_off d s m w.labels e, e)

-- one proposal
module _ (d : Direction) (row : ℕ) (t : Times) where
  -- what did not beat the best before does not win now
  loses : (s m : ℕ) (l : Labels) → Ahead d t.labels.best l → better d m (get_or t.labels.best s 0) ≡ false → wins d s m l ≡ false
  unfolding wins
  loses s m l a e = beaten d m _ _ e (a.improves s)

  one : (s m : ℕ) (g : Leg) (w : Work) → Ahead d t.labels.best w.labels
      → offered d row t.target.time.0 s m g w ≡ half d row (propose d t s m g) w
  unfolding offered propose apply_all keep_all
  one s m g w a = go (better d m (get_or t.labels.best s 0)) (ahead d m t.target.time.0) refl refl
    where
      go : (b c : Bool) → better d m (get_or t.labels.best s 0) ≡ b → ahead d m t.target.time.0 ≡ c
          → offered d row t.target.time.0 s m g w ≡ half d row (propose d t s m g) w
      go true true eb ec = rw (eb, ec) (unfold applied in refl)
      go true false eb ec = rw (eb, ec)
      go false true eb ec = rw (eb, ec) (idle d row s m g w (loses s m w.labels a eb))
      go false false eb ec = rw (eb, ec)

module _ (d : Direction) (n : Net) (k : ℕ) (t : Times) where
  -- a footpath from the label x
  abbrev foot_from : LegType → ℕ → Foot → ℕ → Work → Work
  foot_from c s f x w =
      offered d (k * n.stops) t.target.time.0 f.to (walked d x f.span) (leg_of d c s x f.to (walked d x f.span)) w

  alight_one : (r p : ℕ) (a : Option Aboard) (w : Work) → Ahead d t.labels.best w.labels
      → alight_work d n k t.target.time.0 r p a w ≡ half d (k * n.stops) (alight d n t r p a) w
  unfolding alight_work alight
  alight_one r p None w h = unfold apply_all keep_all in refl
  alight_one r p (Some a) w h = one d (k * n.stops) t _ _ _ w h

  -- a scan
  scan_is : (r : ℕ) (ps : List ℕ) (a : Option Aboard) (w : Work) → Ahead d t.labels.best w.labels → w.prev ≡ t.prev
      → scan_work d n k t.target.time.0 r ps a w ≡ half d (k * n.stops) (scan d n t r ps a) w
  unfolding scan_work scan
  scan_is r [] a w h e = unfold apply_all keep_all in refl
  scan_is r (p ∷ ps) a w h e =
      let u = half d (k * n.stops) (alight d n t r p a) w in
      ap (scan_work d n k t.target.time.0 r ps (board d n w.prev r p a)) (alight_one r p a w h)
      ∙ ap (λ (l : List ℕ). scan_work d n k t.target.time.0 r ps (board d n l r p a) u) e
      ∙ scan_is r ps (board d n t.prev r p a) u (apply_all_ahead d t.labels.best (alight d n t r p a) w.labels h) e
      ∙ sym (half_join d (k * n.stops) (alight d n t r p a) (scan d n t r ps (board d n t.prev r p a)) w)

  routes_is : (rs : List ℕ) (w : Work) → Ahead d t.labels.best w.labels → w.prev ≡ t.prev → w.active ≡ t.active
      → routes_work d n k t.target.time.0 rs w
      ≡ half d (k * n.stops) (gather (λ r. scan d n t r (course d n r (get_or t.active r 0)) None) rs) w
  unfolding routes_work route_work gather
  routes_is [] w h e f = unfold apply_all keep_all in refl
  routes_is (r ∷ rs) w h e f =
      let ps = scan d n t r (course d n r (get_or t.active r 0)) None in
      ap (λ (l : List ℕ). routes_work d n k t.target.time.0 rs (scan_work d n k t.target.time.0 r (course d n r (get_or l r 0)) None w)) f
      ∙ ap (routes_work d n k t.target.time.0 rs) (scan_is r (course d n r (get_or t.active r 0)) None w h e)
      ∙ routes_is rs (half d (k * n.stops) ps w) (apply_all_ahead d t.labels.best ps w.labels h) e f
      ∙ sym (half_join d (k * n.stops) ps (gather (λ r. scan d n t r (course d n r (get_or t.active r 0)) None) rs) w)

  -- a stop's footpaths of one kind; the rides' labels are held
  paths_is : (c : LegType) (s : ℕ) (fs : List Foot) (w : Work) → Ahead d t.labels.best w.labels → w.held ≡ t.labels.curr
      → paths_work d n k t.target.time.0 c s fs w ≡ half d (k * n.stops) (paths d t c s fs) w
  unfolding paths_work foot_work paths
  paths_is c s [] w h e = unfold apply_all keep_all in refl
  paths_is c s (f ∷ fs) w h e =
      let x = get_or t.labels.curr s 0 in
      let y = walked d x f.span in
      let ps = propose d t f.to y (leg_of d c s x f.to y) in
      ap (λ (l : List ℕ). paths_work d n k t.target.time.0 c s fs (foot_from c s f (get_or l s 0) w)) e
      ∙ ap (paths_work d n k t.target.time.0 c s fs) (one d (k * n.stops) t f.to y (leg_of d c s x f.to y) w h)
      ∙ paths_is c s fs (half d (k * n.stops) ps w) (apply_all_ahead d t.labels.best ps w.labels h) e
      ∙ sym (half_join d (k * n.stops) ps (paths d t c s fs) w)

  -- a stop's footpaths, and those of all stops that are held
  abbrev footsteps : Bool → ℕ → List Proposal
  footsteps walking s = paths d t Transfer s (n.transfers s) ++ cond walking (paths d t Walk s (n.walks s)) []

  stop_is : (walking : Bool) (s : ℕ) (w : Work) → Ahead d t.labels.best w.labels → w.held ≡ t.labels.curr
      → stop_work d n k t.target.time.0 walking s w ≡ half d (k * n.stops) (footsteps walking s) w
  unfolding stop_work
  stop_is walking s w h e = go walking
    where
      ps : List Proposal
      ps = paths d t Transfer s (n.transfers s)

      u : Work
      u = half d (k * n.stops) (paths d t Transfer s (n.transfers s)) w

      go : (b : Bool) → stop_work d n k t.target.time.0 b s w ≡ half d (k * n.stops) (footsteps b s) w
      go true =
          ap (paths_work d n k t.target.time.0 Walk s (n.walks s)) (paths_is Transfer s (n.transfers s) w h e)
          ∙ paths_is Walk s (n.walks s) u (apply_all_ahead d t.labels.best (paths d t Transfer s (n.transfers s)) w.labels h) e
          ∙ sym (half_join d (k * n.stops) (paths d t Transfer s (n.transfers s)) (paths d t Walk s (n.walks s)) w)
      go false =
          paths_is Transfer s (n.transfers s) w h e
          ∙ sym (half_join d (k * n.stops) (paths d t Transfer s (n.transfers s)) [] w ∙ unfold apply_all keep_all in refl)

  stops_is : (walking : Bool) (ss : List ℕ) (w : Work) → Ahead d t.labels.best w.labels → w.held ≡ t.labels.curr
      → stops_work d n k t.target.time.0 walking ss w ≡ half d (k * n.stops) (gather (footsteps walking) ss) w
  unfolding stops_work gather
  stops_is walking [] w h e = unfold apply_all keep_all in refl
  stops_is walking (s ∷ ss) w h e =
      ap (stops_work d n k t.target.time.0 walking ss) (stop_is walking s w h e)
      ∙ stops_is walking ss (half d (k * n.stops) (footsteps walking s) w)
      (apply_all_ahead d t.labels.best (footsteps walking s) w.labels h) e
      ∙ sym (half_join d (k * n.stops) (footsteps walking s) (gather (footsteps walking) ss) w)

-- the labels are not behind themselves
level : (d : Direction) (l : Labels) → Ahead d l.best l
level d l = record { improves = λ s. inl refl }

-- the rides of a round, fused, are the model's
pub rides_fused : (d : Direction) (n : Net) (k : ℕ) (s : State)
    → rides_work d n k s.times.target.time.0 (work_of s)
    ≡ with (work_of s) (apply_all d (rides d n s.times) s.times.labels)
    (keep_all d (k * n.stops) (rides d n s.times) s.times.labels s.parents)
unfolding rides_work rides
rides_fused d n k s = routes_is d n k s.times (set_in 0 s.times.mask) (work_of s) (level d s.times.labels) refl refl

-- and so are the footpaths, once the rides' labels and marks are held
pub feet_fused : (d : Direction) (n : Net) (k : ℕ) (walking : Bool) (s : State)
    → feet_work d n k s.times.target.time.0 walking (holding (work_of s))
    ≡ with (holding (work_of s)) (apply_all d (footpaths d n walking s.times) s.times.labels)
    (keep_all d (k * n.stops) (footpaths d n walking s.times) s.times.labels s.parents)
unfolding feet_work footpaths holding with_held with_held_mark
feet_fused d n k walking s =
    stops_is d n k s.times walking (set_in 0 s.times.labels.mark) (holding (work_of s)) (level d s.times.labels) refl

-- a round of the model, by the program's steps
pub round_fused : (n : Net) (q : Task) (k : ℕ) (s : State)
    → let target = s.times.target.time.0 in
    work_of (round n q listed k s)
    ≡ feet_work q.direction n k target q.walking (holding (rides_work q.direction n k target (opened_work n q (work_of s))))
unfolding round round_times round_parents ridden_parents aimed footed ridden ride_half foot_half listed opened_work opened picks holding with_held with_held_mark
round_fused n q k s =
    let d = q.direction in
    let s₁ : State = record { times = opened n q s.times; parents = s.parents } in
    let s₂ : State = record { times = ridden n q listed k s.times; parents = ridden_parents n q listed k s.times s.parents } in
    sym (ap (λ (w : Work). feet_work d n k s.times.target.time.0 q.walking (holding w)) (rides_fused d n k s₁) ∙ feet_fused d n k q.walking s₂)
