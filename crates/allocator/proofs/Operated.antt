-- What each operation's stores do to the state, in the shape in which the proofs of the functions ask for it.
-- Assumes nothing.
use mathlib.Core.Path.{◌≡◌, refl, ap, ◌∙◌}
use mathlib.Core.Bool.{Bool, true, false}
use mathlib.Core.List.{List}
use Prim.Native.Nat.{ℕ, ◌+◌, ◌-◌, ◌*◌, ◌<◌}
use native.Mathlib.Omega.{arith}
use lib.ListN.{get_or, set, replicate, length-replicate}
use Rattle.marks.specs.Marks.{with_mark}
use Rattle.model.specs.declared.Direction.{Direction}
use Rattle.model.specs.declared.Leg.{Leg}
use Rattle.model.specs.declared.Mode.{Mode}
use Rattle.model.specs.declared.Mode.TheVariants.{Source, Rescan}
use Rattle.model.specs.Limits.{MOST_ROUNDS}
use Rattle.model.specs.Applying.{wins, store, apply1}
use Rattle.model.specs.Choosing.{sooner, choose1}
use Rattle.model.specs.Moments.{better}
use Rattle.model.specs.Work.{Work}
use Rattle.allocator.specs.Sections.{sect, overlaid}
use Rattle.allocator.specs.Rows.{leg_row}
use Rattle.allocator.specs.Layout.{pages, Sized, curr_of, best_of, active_of, view}
use Rattle.allocator.specs.Does.{Usable, Does}
use Rattle.allocator.specs.Parts.{with_curr, with_best, with_marks, with_held, with_active, with_mask, with_parents}
use Rattle.allocator.specs.Operations.{blank, started, swapped, unmasked, refreshed, chosen_of, with_chosen, activated}
use Rattle.allocator.specs.Operations.{unmarked, holding, stored, applied}
use Rattle.allocator.proofs.Sections.{sect_length}
use Rattle.allocator.proofs.Read.{row_in}
use Rattle.allocator.proofs.Became.{Became, does_then}
use Rattle.allocator.proofs.DoesWords.{does_curr, does_best, does_active, does_prevs, does_currs, does_helds, does_actives}
use Rattle.allocator.proofs.DoesMarks.{does_mark, does_mask, does_unmark, does_unmask, does_hold_marks}
use Rattle.allocator.proofs.DoesParent.{does_parent}

-- the direction as the caller names it
pub activates : (i p : ℕ) (d e : Direction) (x : Work) {y : Work} → d ≡ e → y ≡ activated e i p x → y ≡ activated d i p x
activates i p d e x f h = rw f h

-- as a contract says it
pub does : {stops routes : ℕ} (f : Work → Work) {ws ms ws' ms' : List ℕ} → Became stops routes f ws ms ws' ms'
    → Usable stops routes ws ms → Does stops routes f ws ms ws' ms'
does f b u = record {
  holds = b.is;
  usable = record { sized = b.sized; tidy = record { known = λ x. b.kept.tidy (u.tidy.known x) } };
}

pub usable_by : {stops routes : ℕ} {f : Work → Work} {ws ms ws' ms' : List ℕ} → Became stops routes f ws ms ws' ms'
    → Usable stops routes ws ms → Usable stops routes ws' ms'
usable_by {f = f} b u = (does f b u).usable

module _ (stops routes : ℕ) (ws ms : List ℕ) (z : Sized stops routes ws ms) where
  -- a change that is given by a value of the state is one of the state
  turned : {f : Work → Work} {ws' ms' : List ℕ} (g : Work → Work) → f (view stops routes ws ms) ≡ g (view stops routes ws ms)
      → Became stops routes f ws ms ws' ms'
      → Became stops routes g ws ms ws' ms'
  turned g e d = record { is = d.is ∙ e; kept = d.kept; sized = d.sized }

  pub does_nothing : Became stops routes (λ x. x) ws ms ws ms
  does_nothing = record { is = refl; kept = record { tidy = λ t. t }; sized = z }

  pub does_start : {ws' ms' : List ℕ} (i t : ℕ) → i < stops → ws' ≡ set ws (stops + i) t → ms' ≡ with_mark ms i
      → Became stops routes (started i t) ws ms ws' ms'
  unfolding started with_curr
  does_start i t h e f =
      let a = does_curr stops routes ws ms z i t h in
      let b = does_mark stops routes (set ws (stops + i) t) ms a.sized i h in
      rw (e, f) (does_then _ _ a b)

  pub does_swap : {ws₁ ws' : List ℕ} → ws₁ ≡ overlaid 0 (sect stops stops ws) ws
      → ws' ≡ overlaid stops (replicate (2 * stops - stops) 0) ws₁
      → Became stops routes (swapped stops) ws ms ws' ms
  unfolding swapped view curr_of
  does_swap e f =
      let count : 2 * stops - stops ≡ stops = omega arith in
      let a = does_prevs stops routes ws ms z (sect stops stops ws) (sect_length stops stops ws (omega arith)) in
      let b = does_currs stops routes (overlaid 0 (sect stops stops ws) ws) ms a.sized (replicate stops 0) (length-replicate stops 0) in
      rw (f, e, count) (turned (swapped stops) refl (does_then _ _ a b))

  pub does_refill_not : {mode : Mode} (d : Direction) → mode ≡ Source → Became stops routes (refreshed mode routes d) ws ms ws ms
  unfolding refreshed
  does_refill_not d e = rw e does_nothing

  pub does_refill : {mode : Mode} {ws' : List ℕ} (d : Direction) (x : ℕ) → mode ≡ Rescan → x ≡ blank d
      → ws' ≡ overlaid (4 * stops) (replicate (4 * stops + routes - 4 * stops) x) ws
      → Became stops routes (refreshed mode routes d) ws ms ws' ms
  unfolding refreshed
  does_refill d x e f g =
      let count : 4 * stops + routes - 4 * stops ≡ routes = omega arith in
      rw (e, g, count, f) (does_actives stops routes ws ms z (replicate routes (blank d)) (length-replicate routes (blank d)))

  pub does_clear_mask : {ms' : List ℕ} (p q : ℕ) → p ≡ pages stops → q ≡ pages routes
      → ms' ≡ overlaid (2 * p) (replicate (2 * p + q - 2 * p) 0) ms
      → Became stops routes (unmasked routes) ws ms ws ms'
  unfolding unmasked
  does_clear_mask p q a b e =
      let count : 2 * p + q - 2 * p ≡ q = omega arith in
      rw (e, count, a, b) (does_unmask stops routes ws ms z)

  pub does_clear_marks : {ms' : List ℕ} (p : ℕ) → p ≡ pages stops → ms' ≡ overlaid 0 (replicate (p - 0) 0) ms
      → Became stops routes (unmarked stops) ws ms ws ms'
  unfolding unmarked
  does_clear_marks p a e =
      let count : p - 0 ≡ p = omega arith in
      rw (e, count, a) (does_unmark stops routes ws ms z)

  pub does_hold : {ws' ms' : List ℕ} (p : ℕ) → p ≡ pages stops → ws' ≡ overlaid (3 * stops) (sect stops stops ws) ws
      → ms' ≡ overlaid p (sect 0 p ms) ms
      → Became stops routes holding ws ms ws' ms'
  unfolding holding view curr_of with_held
  does_hold p q e f =
      let a = does_helds stops routes ws ms z (sect stops stops ws) (sect_length stops stops ws (omega arith)) in
      let b = does_hold_marks stops routes (overlaid (3 * stops) (sect stops stops ws) ws) ms a.sized in
      rw (e, f, q) (turned holding refl (does_then _ _ a b))

  -- ---- a route's mark is replaced, or kept
  module _ (d : Direction) (i p mark : ℕ) {b : Bool} (em : mark ≡ get_or (active_of stops routes ws) i 0)
      (eb : b ≡ sooner d p mark) where
    test : (c : Bool) → b ≡ c → sooner d p (get_or (view stops routes ws ms).active i 0) ≡ c
    unfolding view
    test c e = rw (← em, ← eb) e

    pub does_activate : {ws' ms' : List ℕ} (q : ℕ) → b ≡ true → i < routes → q ≡ pages stops → ws' ≡ set ws (4 * stops + i) p
        → ms' ≡ with_mark ms (64 * (2 * q) + i) → Became stops routes (activated d i p) ws ms ws' ms'
    unfolding activated with_chosen chosen_of choose1 with_active
    does_activate q t h eq e f =
        let one = does_active stops routes ws ms z i p h in
        let two = does_mask stops routes (set ws (4 * stops + i) p) ms one.sized i h in
        rw (e, f, eq) (turned (activated d i p) (rw (test true t)) (does_then _ _ one two))

    pub does_activate_not : b ≡ false → Became stops routes (activated d i p) ws ms ws ms
    unfolding activated with_chosen chosen_of choose1 with_mask with_active
    does_activate_not t = turned (activated d i p) (rw (test false t)) does_nothing

  -- ---- a moment, with its leg
  pub does_store : {ws' ms' : List ℕ} (i t k : ℕ) (g : Leg) (j : ℕ) → i < stops → k < MOST_ROUNDS
      → j ≡ 4 * stops + routes + (k * stops + i) * 6
      → ws' ≡ overlaid j (leg_row g) (set (set ws (stops + i) t) (2 * stops + i) t) → ms' ≡ with_mark ms i
      → Became stops routes (stored (k * stops) i t g) ws ms ws' ms'
  unfolding stored with_curr with_best with_marks with_parents
  does_store i t k g j h l ej e f =
      let a = does_curr stops routes ws ms z i t h in
      let b = does_best stops routes (set ws (stops + i) t) ms a.sized i t h in
      let ws₁ = set (set ws (stops + i) t) (2 * stops + i) t in
      let c = does_parent stops routes ws₁ ms b.sized (k * stops + i) g (row_in stops k i l h) in
      let q = does_mark stops routes (overlaid (4 * stops + routes + (k * stops + i) * 6) (leg_row g) ws₁) ms c.sized i h in
      rw (e, f, ej) (does_then _ _ (does_then _ _ (does_then _ _ a b) c) q)

-- ---- the moment is better than the best one, or not
module _ (stops routes : ℕ) (ws ms : List ℕ) (d : Direction) (i t row : ℕ) (g : Leg) (best : ℕ) {b : Bool}
    (em : best ≡ get_or (best_of stops routes ws) i 0)
    (eb : b ≡ better d t best) where
  won : (c : Bool) → b ≡ c → wins d i t (view stops routes ws ms).labels ≡ c
  unfolding view wins
  won c e = rw (← em, ← eb) e

  pub applies : {x : Work} → b ≡ true → x ≡ stored row i t g (view stops routes ws ms) → x ≡ applied d row i t g (view stops routes ws ms)
  unfolding stored applied apply1 store with_parents with_marks with_best with_curr
  applies y e = e ∙ rw (won true y)

  pub applies_not : b ≡ false → view stops routes ws ms ≡ applied d row i t g (view stops routes ws ms)
  unfolding applied apply1
  applies_not y = rw (won false y)

-- the mask cleared after another operation
pub unmasked_after : {routes routes' : ℕ} {w x y : Work} → routes' ≡ routes → w ≡ unmasked routes' x → x ≡ y → w ≡ unmasked routes y
unmasked_after {routes} r e f = e ∙ rw r (ap (unmasked routes) f)

-- ---- between two stores
module _ {stops routes : ℕ} {ws ms ws' : List ℕ} (u : Usable stops routes ws ms) where
  pub usable_prevs : ws' ≡ overlaid 0 (sect stops stops ws) ws → Usable stops routes ws' ms
  usable_prevs e =
      let long = sect_length stops stops ws (omega (arith, u.sized.words.words_length)) in
      rw e (usable_by (does_prevs stops routes ws ms u.sized (sect stops stops ws) long) u)

  pub usable_helds : ws' ≡ overlaid (3 * stops) (sect stops stops ws) ws → Usable stops routes ws' ms
  usable_helds e =
      let long = sect_length stops stops ws (omega (arith, u.sized.words.words_length)) in
      rw e (usable_by (does_helds stops routes ws ms u.sized (sect stops stops ws) long) u)

  pub usable_parent : (i t k : ℕ) (g : Leg) (j : ℕ) → i < stops → k < MOST_ROUNDS → j ≡ 4 * stops + routes + (k * stops + i) * 6
      → ws' ≡ overlaid j (leg_row g) (set (set ws (stops + i) t) (2 * stops + i) t) → Usable stops routes ws' ms
  usable_parent i t k g j h l ej e =
      let a = usable_by (does_curr stops routes ws ms u.sized i t h) u in
      let b = usable_by (does_best stops routes (set ws (stops + i) t) ms a.sized i t h) a in
      let ws₁ = set (set ws (stops + i) t) (2 * stops + i) t in
      rw (e, ej) (usable_by (does_parent stops routes ws₁ ms b.sized (k * stops + i) g (row_in stops k i l h)) b)
