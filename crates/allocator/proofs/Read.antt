-- A word or a row of words, as the part of the state that it is.
-- Assumes nothing.
use mathlib.Core.Path.{◌≡◌, refl, sym, ap, ◌∙◌}
use mathlib.Core.List.{List}
use Rattle.std.specs.Prelude.{Option, None, Some}
use Prim.Native.Nat.{ℕ, ◌+◌, ◌-◌, ◌*◌, ◌<◌}
use native.Mathlib.Nat.{zero-add, add-zero, mul-le-mul_right, le-pred_of_lt}
use native.Mathlib.Omega.{arith}
use borrow.Author.Tests.{ne_eqb}
use lib.Dec.{lit<}
use lib.ListN.{get_or, take, drop}
use Rattle.marks.specs.Marks.{marked_stops, first_of}
use Rattle.model.specs.declared.Leg.{Leg}
use Rattle.model.specs.declared.LegType.{LegType}
use Rattle.model.specs.declared.LegType.TheVariants.{Transit, Transfer, Walk}
use Rattle.model.specs.Limits.{MOST_ROUNDS}
use Rattle.allocator.specs.Sections.{sect}
use Rattle.allocator.specs.Rows.{row_leg, decoded, row_of, parent_in, parents}
use Rattle.allocator.specs.Layout.{pages, Words, prev_of, curr_of, best_of, held_of, active_of, parents_of, mark_of, held_mark_of, mask_of}
use Rattle.allocator.specs.Marked.{after}
use Rattle.allocator.proofs.Sections.{sect_get, sect_sect}
use Rattle.base.proofs.Tab.{tab_at}
use Rattle.allocator.proofs.Flagged.{stops_after}

module _ (stops routes : ℕ) (ws : List ℕ) (i : ℕ) where
  pub prev_get : i < stops → get_or ws i 0 ≡ get_or (prev_of stops routes ws) i 0
  unfolding prev_of
  prev_get h = rw (sect_get, zero-add)

  pub curr_get : i < stops → get_or ws (stops + i) 0 ≡ get_or (curr_of stops routes ws) i 0
  unfolding curr_of
  curr_get h = rw sect_get

  pub best_get : i < stops → get_or ws (2 * stops + i) 0 ≡ get_or (best_of stops routes ws) i 0
  unfolding best_of
  best_get h = rw sect_get

  pub held_get : i < stops → get_or ws (3 * stops + i) 0 ≡ get_or (held_of stops routes ws) i 0
  unfolding held_of
  held_get h = rw sect_get

  pub active_get : i < routes → get_or ws (4 * stops + i) 0 ≡ get_or (active_of stops routes ws) i 0
  unfolding active_of
  active_get h = rw sect_get

-- row k of stop i is one of the rows
pub row_in : (stops k i : ℕ) → k < MOST_ROUNDS → i < stops → k * stops + i < MOST_ROUNDS * stops
row_in stops k i h g = omega (arith, mul-le-mul_right stops (le-pred_of_lt h))

-- ---- the next mark of a section
module _ (stops routes : ℕ) (ms : List ℕ) (i : ℕ) {x : Option ℕ} where
  pub next_stop : (p : ℕ) → p ≡ pages stops → x ≡ first_of (marked_stops (take (p - 0) (drop 0 ms)) i stops)
      → x ≡ first_of (after i (mark_of stops routes ms))
  unfolding mark_of sect
  next_stop p e f =
      let count : p - 0 ≡ pages stops = omega arith in
      f ∙ rw (count, stops_after)

  pub next_hold : (p : ℕ) → p ≡ pages stops → x ≡ first_of (marked_stops (take (2 * p - p) (drop p ms)) i stops)
      → x ≡ first_of (after i (held_mark_of stops routes ms))
  unfolding held_mark_of sect
  next_hold p e f =
      let count : 2 * p - p ≡ pages stops = omega arith in
      f ∙ rw (count, e, stops_after)

  pub next_scan : (p q : ℕ) → p ≡ pages stops → q ≡ pages routes
      → x ≡ first_of (marked_stops (take (2 * p + q - 2 * p) (drop (2 * p) ms)) i routes)
      → x ≡ first_of (after i (mask_of stops routes ms))
  unfolding mask_of sect
  next_scan p q e g f =
      let count : 2 * p + q - 2 * p ≡ pages routes = omega arith in
      f ∙ rw (count, e, stops_after)

-- ---- a row of the parents
pub leg_read : (c : LegType) (ws : List ℕ) (i : ℕ) →
    record {
      from = get_or ws (i + 1) 0;
      to = get_or ws (i + 2) 0;
      departure = record { 0 = get_or ws (i + 4) 0 };
      arrival = record { 0 = get_or ws (i + 5) 0 };
      kind = c;
    }
    ≡ row_leg c (sect i 6 ws)
unfolding row_leg
leg_read c ws i =
    rw (
      sect_get i 6 ws 1 (lit< tt),
      sect_get i 6 ws 2 (lit< tt),
      sect_get i 6 ws 4 (lit< tt),
      sect_get i 6 ws 5 (lit< tt),
    )

module _ (ws : List ℕ) (i : ℕ) where
  kind_is : (k : ℕ) → get_or ws i 0 ≡ k → get_or (sect i 6 ws) 0 0 ≡ k
  kind_is k e = sect_get i 6 ws 0 (lit< tt) ∙ ap (λ (x : ℕ). get_or ws x 0) (add-zero i) ∙ e

  pub read_ride : {g : Leg} → get_or ws i 0 ≡ 1 → g ≡ row_leg (Transit (get_or ws (i + 3) 0)) (sect i 6 ws)
      → Some g ≡ decoded (sect i 6 ws)
  unfolding decoded
  read_ride e f = rw (kind_is 1 e, sect_get i 6 ws 3 (lit< tt), f)

  pub read_transfer : {g : Leg} → get_or ws i 0 ≡ 2 → g ≡ row_leg Transfer (sect i 6 ws)
      → Some g ≡ decoded (sect i 6 ws)
  unfolding decoded
  read_transfer e f = rw (kind_is 2 e, f)

  pub read_walk : {g : Leg} → get_or ws i 0 ≡ 3 → g ≡ row_leg Walk (sect i 6 ws) → Some g ≡ decoded (sect i 6 ws)
  unfolding decoded
  read_walk e f = rw (kind_is 3 e, f)

  pub read_none : (get_or ws i 0 ≡ 1 → ⊥) → (get_or ws i 0 ≡ 2 → ⊥) → (get_or ws i 0 ≡ 3 → ⊥)
      → None ≡ decoded (sect i 6 ws)
  unfolding decoded
  read_none a b c =
      let k = kind_is (get_or ws i 0) refl in
      rw (k, ne_eqb (get_or ws i 0) 1 a, ne_eqb (get_or ws i 0) 2 b, ne_eqb (get_or ws i 0) 3 c)

pub parent_get : (stops routes k i j : ℕ) (ws : List ℕ) {x : Option Leg} → Words stops routes ws → k < MOST_ROUNDS → i < stops
    → j ≡ 4 * stops + routes + (k * stops + i) * 6
    → x ≡ decoded (sect j 6 ws) → x ≡ get_or (parents_of stops routes ws) (k * stops + i) None
unfolding parents_of parents parent_in row_of
parent_get stops routes k i j ws z h g e f =
    let start = 4 * stops + routes in
    let row = k * stops + i in
    let inside : row < MOST_ROUNDS * stops = row_in stops k i h g in
    f
    ∙ ap (λ (x : ℕ). decoded (sect x 6 ws)) e
    ∙ sym (
    tab_at (parent_in (sect start (90 * stops) ws)) (MOST_ROUNDS * stops) row None inside
    ∙ ap decoded (sect_sect start (90 * stops) ws (row * 6) 6 (omega arith) (omega arith))
    )
