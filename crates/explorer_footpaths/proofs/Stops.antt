-- The footpaths of one stop, and those of all stops whose mark is held.
use Prim.Native.Nat.{ℕ, ◌+◌, ◌<◌}
use mathlib.Core.Path.{◌≡◌, sym, ap, ◌∙◌, subst}
use mathlib.Core.Bool.{Bool, true, false}
use mathlib.Core.List.{List}
use lib.ListN.{get_or}
use Rattle.marks.specs.Marks.{first_of}
use Rattle.std.specs.Prelude.{Option, Some}
use Rattle.model.specs.declared.Direction.{Direction}
use Rattle.model.specs.declared.LegType.{LegType}
use Rattle.model.specs.declared.LegType.TheVariants.{Transfer, Walk}
use Rattle.model.specs.Tables.{Foot, Net}
use Rattle.model.specs.Lists.{set_in}
use Rattle.model.specs.Work.{Work}
use Rattle.allocator.specs.Layout.{view}
use Rattle.allocator.specs.Marked.{after}
use Rattle.allocator.specs.Workspace.{state, held_labels, held_mark, SameSlices}
use Rattle.allocator.specs.declared.Workspace.{Workspace}
use Rattle.explorer.specs.declared.Round.{Round}
use Rattle.explorer.specs.Fixed.{InRound}
use Rattle.explorer.specs.Fused.{paths_work, stop_work, feet_work}
use Rattle.explorer.specs.Turns.{in_turn, Turn}
use Rattle.explorer.proofs.Fixed.{in_round_same}
use Rattle.explorer.proofs.Turns.{mark_start, mark_next}
use Rattle.explorer.proofs.Visited.{visited}
use Rattle.explorer_footpaths.specs.Footing.{Footing, Leaving, foot_from}
use Rattle.explorer_footpaths.proofs.Held.{SameHeld, stop_held, paths_turn, stops_turn, label_held}

-- ---- one stop
module _ (d : Direction) (n : Net) (k target s : ℕ) where
  taken : (c : LegType) (fs : List Foot) (w : Work) {stops x : ℕ} → stops ≡ n.stops → x ≡ get_or w.held s 0
      → in_turn (foot_from d stops k target c s x) fs w ≡ paths_work d n k target c s fs w
  taken c fs w e-stops ex = rw (e-stops, ex) (sym (paths_turn d n k target c s fs w))

  module _ (space : Workspace) {x : ℕ} {u : Work} (e-stops : space.stops ≡ n.stops) (ex : x ≡ get_or (held_labels space) s 0)
      (eu : u ≡ in_turn (foot_from d space.stops k target Transfer s x) (n.transfers s) (state space)) where
    after_transfers : u ≡ paths_work d n k target Transfer s (n.transfers s) (state space)
    unfolding view
    after_transfers = eu ∙ taken Transfer (n.transfers s) (state space) e-stops ex

    pub stop_only : {walking : Bool} → walking ≡ false → u ≡ stop_work d n k target walking s (state space)
    unfolding stop_work
    stop_only e = after_transfers ∙ rw e

    pub stop_walks : {walking : Bool} {stops : ℕ} {y : Work} → walking ≡ true → stops ≡ space.stops
        → y ≡ in_turn (foot_from d stops k target Walk s x) (n.walks s) u
        → y ≡ stop_work d n k target walking s (state space)
    unfolding stop_work view
    stop_walks e es ey =
        let held_on : x ≡ get_or u.held s 0 =
        ex ∙ ap (λ (l : List ℕ). get_or l s 0) (sym (label_held d n k target Transfer s (n.transfers s) (state space)))
        ∙ ap (λ (w : Work). get_or w.held s 0) (sym after_transfers) in
        ey ∙ taken Walk (n.walks s) u (es ∙ e-stops) held_on ∙ ap (paths_work d n k target Walk s (n.walks s)) after_transfers ∙ rw e

-- the label as it was read
pub leaving_at : {w : List ℕ} {stops routes : ℕ} {round : Round} {s x y : ℕ} → Leaving w stops routes round s y → x ≡ y
    → Leaving w stops routes round s x
leaving_at h e = rw e h

-- of a workspace over the same words and marks
pub leaving_same : {w : List ℕ} {space space' : Workspace} {round : Round} {s x : ℕ} → SameSlices space space' → Leaving w space.stops space.routes round s x
    → Leaving w space'.stops space'.routes round s x
leaving_same z h = record { in_round = in_round_same z h.in_round; stop = rw z.stops_same h.stop; label = h.label }

-- a stop whose mark is held can be left
pub leaving : (space : Workspace) (i : ℕ) {w : List ℕ} {stops routes : ℕ} {round : Round} {s : ℕ} {a : Option ℕ} → InRound w stops routes round
    → Footing stops (state space) → a ≡ first_of (after i (held_mark space)) → a ≡ Some s
    → Leaving w stops routes round s (get_or (held_labels space) s 0)
unfolding view
leaving space i {stops = stops} {s = s} h z e f =
    let g = visited (λ u. (u < stops) × (0 < get_or (held_labels space) u 0)) i (held_mark space) z.marked e f in
    record { in_round = h; stop = g.0; label = record { some = g.1; most = z.most s g.0 } }

-- ---- all stops
module _ (d : Direction) (n : Net) (k target : ℕ) (walking : Bool) where
  pub foot_start : (space : Workspace)
      → Turn (stop_work d n k target walking) (feet_work d n k target walking (state space)) (after 0 (held_mark space)) (state space)
  unfolding feet_work view
  foot_start space = record {
    rest =
        (mark_start (stop_work d n k target walking) (held_mark space) (state space)).rest
        ∙ sym (stops_turn d n k target walking (set_in 0 (held_mark space)) (state space));
  }

  module _ (space space' : Workspace) (s : ℕ) (g : state space' ≡ stop_work d n k target walking s (state space)) where
    marks_held : held_mark space' ≡ held_mark space
    unfolding view
    marks_held = ap (λ (w : Work). w.held_mark) g ∙ (stop_held d n k target walking s (state space)).marks

    pub footing_held : {stops : ℕ} → Footing stops (state space) → Footing stops (state space')
    footing_held {stops} z =
        stays (state space) (state space') (subst (SameHeld (state space)) (sym g) (stop_held d n k target walking s (state space))) z
      where
        stays : (x y : Work) → SameHeld x y → Footing stops x → Footing stops y
        stays x y h z = record {
          most = λ s i. rw h.labels (z.most s i);
          marked = rw (h.labels, h.marks) z.marked;
        }

    pub foot_next : (i : ℕ) {goal : Work} {a : Option ℕ} → Turn (stop_work d n k target walking) goal (after i (held_mark space)) (state space)
        → a ≡ first_of (after i (held_mark space)) → a ≡ Some s
        → Turn (stop_work d n k target walking) goal (after (s + 1) (held_mark space')) (state space')
    foot_next i {goal = goal} turn e f =
        subst (λ (l : List Bool). Turn (stop_work d n k target walking) goal (after (s + 1) l) (state space')) (sym marks_held)
        (mark_next i (held_mark space) turn e f g)
