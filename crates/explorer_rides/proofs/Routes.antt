-- A loop over the chosen routes on its way: the routes that are left lead where all of them lead.
use Prim.Native.Nat.{ℕ, ◌+◌, ◌-◌, ◌*◌, ◌≤◌, ◌<◌}
use mathlib.Core.Path.{◌≡◌, refl, sym, ◌∙◌}
use mathlib.Core.List.{List, []}
use native.Mathlib.Omega.{arith}
use lib.ListN.{get_or}
use Rattle.base.specs.Tab.{tab}
use Rattle.marks.specs.Marks.{marked, first_of}
use Rattle.std.specs.Prelude.{Option, None, Some}
use Rattle.model.specs.declared.Direction.{Direction}
use Rattle.model.specs.declared.Direction.TheVariants.{Departure, Arrival}
use Rattle.model.specs.Lists.{upto}
use Rattle.model.specs.Rides.{course}
use Rattle.model.specs.Choosing.{Placed}
use Rattle.repository.specs.NetOf.{net_of}
use Rattle.allocator.specs.Sections.{sect}
use Rattle.allocator.specs.Layout.{pages, flags, mask_of, view}
use Rattle.allocator.specs.Workspace.{state, active, mask, SameSlices, Becomes}
use Rattle.allocator.specs.declared.Workspace.{Workspace}
use Rattle.allocator.specs.Marked.{after}
use Rattle.base.proofs.Tab.{tab_length}
use Rattle.allocator.proofs.Becoming.{same_self, same_then}
use Rattle.allocator.proofs.Visited.{after_start, after_from, after_below, after_next, after_none}
use Rattle.explorer.specs.declared.Round.{Round}
use Rattle.explorer.specs.Fixed.{InRound}
use Rattle.explorer.specs.Fused.{scan_work, route_work, routes_work, rides_work}
use Rattle.explorer.proofs.Fixed.{in_round_same}
use Rattle.explorer.proofs.Visited.{visited}
use Rattle.explorer_rides.specs.Riding.{Riding, Rideable}
use Rattle.explorer_rides.proofs.Unchanged.{route_mask, route_active}

-- ---- one route
riding : {w stops : List ℕ} {many routes : ℕ} {round : Round} {r : ℕ} → InRound w many routes round → r < routes
    → stops ≡ tab ((net_of w).stop_at r) ((net_of w).positions r) 0 → Riding w round r stops
riding h l e = record { searchable = h.fixed.searchable; number = h.number; route = rw h.fixed.net_routes at l; along = e }

pub rideable : {w stops : List ℕ} {many routes : ℕ} {round : Round} {r : ℕ} → InRound w many routes round → r < routes
    → stops ≡ tab ((net_of w).stop_at r) ((net_of w).positions r) 0 → Rideable w round r stops
rideable h l e = record { known = λ _. riding h l e }

module _ (w : List ℕ) (round : Round) (r : ℕ) {space : Workspace} {from : ℕ} (e : from ≡ get_or (active space) r 0) where
  pub route_scanned : {space' : Workspace}
      → Becomes (scan_work round.direction (net_of w) round.number round.target.0 r (course round.direction (net_of w) r from) None) space space'
      → Becomes (route_work round.direction (net_of w) round.number round.target.0 r) space space'
  unfolding route_work view
  route_scanned f = record { holds = f.holds ∙ rw e; same = f.same }

  -- no position is left at the mark
  pub route_passed : {end : ℕ} → end ≡ (net_of w).positions r → end ≤ from
      → (round.direction ≡ Arrival → get_or (active space) r 0 < (net_of w).positions r)
      → Becomes (route_work round.direction (net_of w) round.number round.target.0 r) space space
  unfolding scan_work course upto
  route_passed ee l z = route_scanned (record { holds = rw (empty round.direction refl); same = same_self })
    where
      empty : (d : Direction) → d ≡ round.direction → course d (net_of w) r from ≡ []
      empty Departure f = let none : (net_of w).positions r - from ≡ 0 = omega (arith, ee, l) in rw none
      empty Arrival f = absurd (omega (arith, e, ee, l, z (sym f)))

-- ---- the loop
-- the answer x of a look from place i on
module _ (space : Workspace) (i : ℕ) {r : ℕ} {x : Option ℕ} (e : x ≡ first_of (after i (mask space))) (f : x ≡ Some r) where
  pub next_from : i ≤ r
  next_from = after_from i (mask space) (sym f ∙ e)

  pub next_below : r < space.routes
  unfolding mask_of flags
  next_below =
      let many = tab_length (marked (sect (2 * pages space.stops) (pages space.routes) space.marks.now)) space.routes 0 in
      omega (arith, after_below i (mask space) (sym f ∙ e), many)

  pub next_less : {routes : ℕ} → space.routes ≡ routes → routes - (r + 1) < routes - i
  next_less s = omega (arith, next_from, next_below)

  pub next_fits : r < 4_294_967_296
  next_fits = omega (arith, next_below, space.usable.sized.words.most_routes)

  pub next_room : r + 1 < 18_446_744_073_709_551_616
  next_room = omega (arith, next_fits)

-- the workspace `first` became `space`, which lies over the same words and marks
module _ (w : List ℕ) (round : Round) (first : Workspace) where
  pub record Exploring (space : Workspace) (i : ℕ) : Type 0 where
    pub rest : routes_work round.direction (net_of w) round.number round.target.0 (after i (mask space)) (state space)
        ≡ rides_work round.direction (net_of w) round.number round.target.0 (state first)
    pub actives : active space ≡ active first
    pub masks : mask space ≡ mask first
    pub same : SameSlices first space

module _ {w : List ℕ} {round : Round} {first : Workspace} where
  pub exploring_start : Exploring w round first first 0
  unfolding rides_work view
  exploring_start = record { rest = rw (after_start (mask first)); actives = refl; masks = refl; same = same_self }

  module _ {space : Workspace} {i : ℕ} (h : Exploring w round first space i) where
    pub exploring_in : InRound w first.stops first.routes round → InRound w space.stops space.routes round
    exploring_in g = in_round_same h.same g

    module _ {x : Option ℕ} (e : x ≡ first_of (after i (mask space))) where
      pub exploring_step : {space' : Workspace} {r : ℕ} → x ≡ Some r
          → Becomes (route_work round.direction (net_of w) round.number round.target.0 r) space space'
          → Exploring w round first space' (r + 1)
      unfolding routes_work
      exploring_step {space'} {r} f g = record {
        rest = rw (route_mask w round r space space' g, g.holds) (rw (after_next i (mask space) (sym f ∙ e)) at h.rest);
        actives = route_active w round r space space' g ∙ h.actives;
        masks = route_mask w round r space space' g ∙ h.masks;
        same = same_then h.same g.same;
      }

      pub exploring_end : x ≡ None → Becomes (rides_work round.direction (net_of w) round.number round.target.0) first space
      unfolding routes_work
      exploring_end f = record { holds = rw (after_none i (mask space) (sym f ∙ e)) at h.rest; same = h.same }

      -- the mark of the route, in an arrival search
      pub placed_on : {r : ℕ} → x ≡ Some r → Placed round.direction (net_of w) (state first) → round.direction ≡ Arrival
          → get_or (active space) r 0 < (net_of w).positions r
      unfolding view
      placed_on {r} f z a =
          rw h.actives
          (visited (λ r. get_or (active first) r 0 < (net_of w).positions r) i (mask first) (z a) (rw h.masks at e) f)
