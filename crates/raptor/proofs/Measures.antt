-- The lengths that the tables ask for, and slices that have them.
use Prim.Native.Nat.{ℕ, zero, suc, ◌+◌, ◌<◌}
use native.Mathlib.Omega.{arith}
use mathlib.Core.Path.{◌≡◌, refl, sym, ap, ◌∙◌}
use mathlib.Core.Bool.{Bool, true, false, not, ◌&&◌}
use mathlib.Core.List.{List}
use lib.Dec.{eqb}
use lib.ListN.{length}
use borrow.Author.Tests.{eqb-true}
use Rattle.base.proofs.Choice.{and_left, and_right}
use Rattle.repository.specs.Laid.{Laid}
use Rattle.repository.specs.Accepted.{Accepted}
use Rattle.repository.specs.NetOf.{net_of}
use Rattle.repository.specs.Checked.{check_of}
use Rattle.repository.proofs.Ranges.{stops_few, routes_few}
use Rattle.check_tables.proofs.Whole.{zero_accepted}
use Rattle.allocator.specs.Layout.{words_room, marks_room, Sized}
use Rattle.allocator.proofs.Roomy.{sized_of}
use Rattle.std.specs.Prelude.{Ok, Err}
use Rattle.model.specs.declared.Refusal.{Refusal}
use Rattle.model.specs.Refusal.{refusal_number, refusal_of}
use Rattle.model.proofs.Refusals.{number_range, refusal_of-number}
use Rattle.raptor.specs.declared.Lengths.{Lengths}
use Rattle.raptor.specs.Solved.{room_for}
use Rattle.raptor.specs.Rooms.{lengths_of, room_by, room_of}

-- ---- the tables

module _ (w : List ℕ) where
  pub none_laid : 0 ≡ check_of w → Laid w
  none_laid e = (zero_accepted w e refl).laid

  pub lengths_told : {stops routes : ℕ} {l : Lengths} → 0 ≡ check_of w → stops ≡ (net_of w).stops → routes ≡ (net_of w).routes
      → l ≡ lengths_of stops routes → Ok l ≡ room_of w
  unfolding room_of room_by
  lengths_told {stops} {routes} z f g u = rw (← z, ← f, ← g, u)

  pub refusal_told : (x : Refusal) → refusal_number x ≡ check_of w → Err x ≡ room_of w
  unfolding room_of room_by
  refusal_told x e = rw (← e) (ap (λ (y : Refusal). Err y) (sym (refusal_of-number x)) ∙ by (refusal_number x) (number_range x).0)
    where
      by : (k : ℕ) → 0 < k → Err (refusal_of k) ≡ room_by (net_of w) k
      by zero h = absurd (omega arith)
      by (suc k) h = refl

-- ---- the slices

module _ (stops routes words marks places : ℕ) {l : Lengths} {b : Bool} (e : l ≡ lengths_of stops routes)
    (eb : b ≡ not (eqb words l.words && (eqb marks l.marks && eqb places l.places))) where
  compared : b ≡ not (room_for stops routes words marks places)
  unfolding room_for
  compared = rw e at eb ∙ by (eqb words (words_room stops routes)) _ _
    where
      by : (x y z : Bool) → not (x && (y && z)) ≡ not (x && y && z)
      by true y z = refl
      by false y z = refl

  pub unfit : b ≡ true → room_for stops routes words marks places ≡ false
  unfit t = decided (room_for stops routes words marks places) (sym t ∙ compared)
    where
      decided : (x : Bool) → true ≡ not x → x ≡ false
      decided true f = f
      decided false f = refl

  pub fit : b ≡ false → room_for stops routes words marks places ≡ true
  fit t = decided (room_for stops routes words marks places) (sym t ∙ compared)
    where
      decided : (x : Bool) → false ≡ not x → x ≡ true
      decided true f = refl
      decided false f = f

module _ (stops routes : ℕ) (ws ms ps : List ℕ) (e : room_for stops routes (length ws) (length ms) (length ps) ≡ true) where
  all : eqb (length ws) (words_room stops routes) && eqb (length ms) (marks_room stops routes) && eqb (length ps) (stops + stops) ≡ true
  unfolding room_for
  all = e

  pub room_sized : {w : List ℕ} → Accepted w → stops ≡ (net_of w).stops → routes ≡ (net_of w).routes → Sized stops routes ws ms
  room_sized h e-stops e-routes =
      let a = eqb (length ws) (words_room stops routes) in
      let b = eqb (length ms) (marks_room stops routes) in
      let ab = and_left (a && b) (eqb (length ps) (stops + stops)) all in
      sized_of (rw e-stops (stops_few h.laid)) (rw e-routes (routes_few h.laid)) (eqb-true (length ws) (words_room stops routes) (and_left a b ab))
      (eqb-true (length ms) (marks_room stops routes) (and_right a b ab))
