-- The steps of choosing, in the shape in which the loops ask for them.
use Prim.Native.Nat.{ℕ, ◌+◌, ◌≤◌, ◌<◌}
use mathlib.Core.Path.{◌≡◌, refl, sym, ap, ◌∙◌, subst}
use mathlib.Core.Bool.{Bool}
use mathlib.Core.List.{List, [], ◌∷◌}
use native.Mathlib.Omega.{arith}
use Rattle.marks.specs.Marks.{first_of}
use Rattle.std.specs.Prelude.{Option, Some}
use Rattle.model.specs.declared.Direction.{Direction}
use Rattle.model.specs.Tables.{Net}
use Rattle.model.specs.Lists.{upto, set_in}
use Rattle.model.specs.Choosing.{first_position, choose_at, choose}
use Rattle.model.specs.Work.{Work}
use Rattle.repository.specs.Sections.{call_route}
use Rattle.repository.specs.Readable.{Searchable}
use Rattle.repository.specs.NetOf.{net_of}
use Rattle.repository.specs.Rows.{calls, first_row, past_row, OfStop, rest}
use Rattle.repository.proofs.Lists.{calls_are}
use Rattle.repository.proofs.Ranges.{of_stop, route_known}
use Rattle.allocator.specs.Layout.{view}
use Rattle.allocator.specs.Marked.{after}
use Rattle.allocator.specs.Parts.{with_active, with_mask}
use Rattle.allocator.specs.Operations.{chosen_of, with_chosen, activated}
use Rattle.allocator.specs.Workspace.{state, mark}
use Rattle.allocator.specs.declared.Workspace.{Workspace}
use Rattle.explorer.specs.Turns.{in_turn, Turn}
use Rattle.explorer.proofs.Turns.{row_next, mark_start, mark_next}
use Rattle.explorer_choosing.specs.Chosen.{chosen_by, chosen_at, chosen_all}

-- ---- what is chosen of a list is chosen entry by entry
module _ (d : Direction) (n : Net) where
  routes_turn : (s : ℕ) (rs : List ℕ) (w : Work)
      → with_chosen (choose_at d n s rs (chosen_of w)) w ≡ in_turn (chosen_by d n s) rs w
  unfolding choose_at in_turn chosen_by activated with_chosen chosen_of with_active with_mask
  routes_turn s [] w = refl
  routes_turn s (r ∷ rs) w = routes_turn s rs (chosen_by d n s r w)

  stops_turn : (ss : List ℕ) (w : Work) → with_chosen (choose d n ss (chosen_of w)) w ≡ in_turn (chosen_at d n) ss w
  unfolding choose in_turn chosen_at with_chosen chosen_of with_active with_mask
  stops_turn [] w = refl
  stops_turn (s ∷ ss) w = stops_turn ss (chosen_at d n s w)

-- ---- the routes of a stop, by the rows of its calls
pub route_start : (d : Direction) (w : List ℕ) (s : ℕ) (x : Work) {a b : ℕ} → a ≡ first_row calls w s → b ≡ past_row calls w s
    → Turn (chosen_by d (net_of w) s) (chosen_at d (net_of w) s x) (rest (call_route w) a b) x
unfolding chosen_at
route_start d w s x e f = record {
  rest =
      ap (λ (l : List ℕ). in_turn (chosen_by d (net_of w) s) l x) (sym (calls_are w s e f))
      ∙ sym (routes_turn d (net_of w) s ((net_of w).routes_of s) x);
}

module _ {w : List ℕ} {stops s j b : ℕ} (h : Searchable w) (e-stops : stops ≡ (net_of w).stops) (i : s < stops)
    (from : first_row calls w s ≤ j) (l : j < b) (eb : b ≡ past_row calls w s) where
  here : OfStop calls w s j
  here = of_stop calls (omega arith) refl from eb l

  pub route_in : {routes r : ℕ} → routes ≡ (net_of w).routes → r ≡ call_route w j → r < routes
  route_in e-routes er = omega (arith, route_known h here er)

  pub route_next : (d : Direction) {goal x y : Work} {r p : ℕ}
      → Turn (chosen_by d (net_of w) s) goal (rest (call_route w) j b) x
      → r ≡ call_route w j
      → ((u : ℕ) → OfStop calls w u j
      → p ≡ first_position (net_of w) (call_route w j) u (upto ((net_of w).positions (call_route w j)) 0))
      → y ≡ activated d r p x → Turn (chosen_by d (net_of w) s) goal (rest (call_route w) (j + 1) b) y
  unfolding chosen_by
  route_next d t er ep ey = row_next (call_route w) j b t l (ey ∙ rw (er, ep s here))

-- ---- the marked stops; choosing does not change which these are
module _ (d : Direction) (n : Net) where
  pub stop_start : (w : Workspace) → Turn (chosen_at d n) (chosen_all d n (state w)) (after 0 (mark w)) (state w)
  unfolding chosen_all view
  stop_start w = record {
    rest =
        (mark_start (chosen_at d n) (mark w) (state w)).rest
        ∙ sym (stops_turn d n (set_in 0 (mark w)) (state w));
  }

  pub stop_next : (i : ℕ) (w w' : Workspace) {goal : Work} {a : Option ℕ} {s : ℕ} → Turn (chosen_at d n) goal (after i (mark w)) (state w)
      → a ≡ first_of (after i (mark w)) → a ≡ Some s → state w' ≡ chosen_at d n s (state w)
      → Turn (chosen_at d n) goal (after (s + 1) (mark w')) (state w')
  unfolding view chosen_at with_chosen with_active with_mask
  stop_next i w w' {goal} {a} {s} turn e f g =
      let same : mark w' ≡ mark w = ap (λ (x : Work). x.labels.mark) g in
      subst (λ (l : List Bool). Turn (chosen_at d n) goal (after (s + 1) l) (state w')) (sym same)
      (mark_next i (mark w) turn e f g)
