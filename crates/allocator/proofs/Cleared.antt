-- A workspace that was filled whole, whatever it held.
-- Assumes nothing.
use mathlib.Core.Path.{◌≡◌, sym, ap, ◌∙◌}
use mathlib.Core.List.{List}
use Rattle.std.specs.Prelude.{None}
use Prim.Native.Nat.{ℕ, ◌+◌, ◌-◌, ◌*◌, ◌≤◌, ◌<◌}
use native.Mathlib.Nat.{zero-add}
use native.Mathlib.Omega.{arith}
use lib.ListN.{length, replicate, length-replicate}
use Rattle.model.specs.declared.Direction.{Direction}
use Rattle.model.specs.Limits.{MOST_ROUNDS}
use Rattle.model.specs.Moments.{MAX}
use Rattle.allocator.specs.Sections.{sect, overlaid}
use Rattle.allocator.specs.Rows.{encoded, decoded, row_of, parent_in, parents}
use Rattle.allocator.specs.Layout.{pages, Sized, prev_of, curr_of, best_of, held_of, active_of, parents_of, mark_of, held_mark_of}
use Rattle.allocator.specs.Layout.{mask_of, view}
use Rattle.allocator.specs.Tidy.{Rows, Tidy}
use Rattle.allocator.specs.Operations.{blank, cleared}
use Rattle.allocator.proofs.Sections.{Only, only_whole, put_sect, sect_whole_put, sect_replicate, sect_before}
use Rattle.allocator.proofs.Tabulated.{tab_all}
use Rattle.allocator.proofs.Rowed.{decode_encode}
use Rattle.allocator.proofs.Flagged.{flags_none, spare_none}

-- the rows of absent parents
module _ (count : ℕ) where
  blank_row : (i : ℕ) → i < count → row_of (replicate (count * 6) MAX) i ≡ encoded None
  unfolding row_of encoded
  blank_row i h = sect_replicate (i * 6) 6 (count * 6) MAX (omega arith)

  none_there : (i : ℕ) → i < count → parent_in (replicate (count * 6) MAX) i ≡ None
  unfolding parent_in
  none_there i h = ap decoded (blank_row i h) ∙ decode_encode None

  pub no_parents : parents count (replicate (count * 6) MAX) ≡ replicate count None
  unfolding parents
  no_parents = tab_all (parent_in (replicate (count * 6) MAX)) count None none_there

  pub rows_blank : Rows count (replicate (count * 6) MAX)
  rows_blank = record { written = λ i h. blank_row i h ∙ ap encoded (sym (none_there i h)) }

-- the words in three fills, the marks in one
module _ (stops routes x : ℕ) (d : Direction) (ws ms ws₁ ws₂ : List ℕ) {ws' ms' : List ℕ} (z : Sized stops routes ws ms) (ex : x ≡ blank d)
    (e₁ : ws₁ ≡ overlaid 0 (replicate (4 * stops - 0) 0) ws)
    (e₂ : ws₂ ≡ overlaid (4 * stops) (replicate (4 * stops + routes - 4 * stops) x) ws₁)
    (e₃ : ws' ≡ overlaid (4 * stops + routes) (replicate (4 * stops + routes + 90 * stops - (4 * stops + routes)) MAX) ws₂) (p q : ℕ)
    (ep : p ≡ pages stops)
    (eq : q ≡ pages routes) (em : ms' ≡ overlaid 0 (replicate (2 * p + q - 0) 0) ms) where
  record Filled : Type 0 where
    pub low : (a : ℕ) → a + stops ≤ 4 * stops → sect a stops ws' ≡ replicate stops 0
    pub mid : sect (4 * stops) routes ws' ≡ replicate routes (blank d)
    pub high : sect (4 * stops + routes) (90 * stops) ws' ≡ replicate (MOST_ROUNDS * stops * 6) MAX
    pub no_marks : (a b : ℕ) → a + b ≤ 2 * pages stops + pages routes → sect a b ms' ≡ replicate b 0

  filled : Filled
  filled = record { low = low; mid = mid; high = high; no_marks = no_marks }
    where
      n₁ : 4 * stops - 0 ≡ 4 * stops
      n₁ = omega arith

      n₂ : 4 * stops + routes - 4 * stops ≡ routes
      n₂ = omega arith

      n₃ : 4 * stops + routes + 90 * stops - (4 * stops + routes) ≡ 90 * stops
      n₃ = omega arith

      l₁ : length {A = ℕ} (replicate (4 * stops - 0) 0) ≡ 4 * stops
      l₁ = length-replicate (4 * stops - 0) 0 ∙ n₁

      l₂ : length (replicate (4 * stops + routes - 4 * stops) x) ≡ routes
      l₂ = length-replicate (4 * stops + routes - 4 * stops) x ∙ n₂

      l₃ : length (replicate (4 * stops + routes + 90 * stops - (4 * stops + routes)) MAX) ≡ 90 * stops
      l₃ = length-replicate (4 * stops + routes + 90 * stops - (4 * stops + routes)) MAX ∙ n₃

      c₁ : Only 0 (4 * stops) ws ws₁
      c₁ = rw e₁ (only_whole 0 (4 * stops) ws (replicate (4 * stops - 0) 0) l₁ (omega arith))

      c₂ : Only (4 * stops) routes ws₁ ws₂
      c₂ = rw e₂ (only_whole (4 * stops) routes ws₁ (replicate (4 * stops + routes - 4 * stops) x) l₂ (omega (arith, c₁.long)))

      c₃ : Only (4 * stops + routes) (90 * stops) ws₂ ws'
      c₃ =
          rw e₃ (only_whole (4 * stops + routes) (90 * stops) ws₂ (replicate (4 * stops + routes + 90 * stops - (4 * stops + routes)) MAX) l₃
          (omega (arith, c₁.long, c₂.long)))

      low : (a : ℕ) → a + stops ≤ 4 * stops → sect a stops ws' ≡ replicate stops 0
      low a h =
          sect_before c₃ a stops (omega arith) (omega (arith, c₁.long, c₂.long))
          ∙ sect_before c₂ a stops h (omega (arith, c₁.long))
          ∙ ap (sect a stops) e₁
          ∙ ap (λ (k : ℕ). sect k stops (overlaid 0 (replicate (4 * stops - 0) 0) ws)) (sym (zero-add a))
          ∙ put_sect 0 (replicate (4 * stops - 0) 0) ws (omega (arith, l₁)) a stops (omega (arith, l₁))
          ∙ sect_replicate a stops (4 * stops - 0) 0 (omega arith)

      mid : sect (4 * stops) routes ws' ≡ replicate routes (blank d)
      mid =
          sect_before c₃ (4 * stops) routes (omega arith) (omega (arith, c₁.long, c₂.long))
          ∙ ap (sect (4 * stops) routes) e₂
          ∙ sect_whole_put (4 * stops) routes ws₁ (replicate (4 * stops + routes - 4 * stops) x) l₂ (omega (arith, c₁.long))
          ∙ ap (λ (k : ℕ). replicate k x) n₂
          ∙ ap (replicate routes) ex

      high : sect (4 * stops + routes) (90 * stops) ws' ≡ replicate (MOST_ROUNDS * stops * 6) MAX
      high =
          let rows : 4 * stops + routes + 90 * stops - (4 * stops + routes) ≡ MOST_ROUNDS * stops * 6 = omega arith in
          ap (sect (4 * stops + routes) (90 * stops)) e₃
          ∙ sect_whole_put (4 * stops + routes) (90 * stops) ws₂ (replicate (4 * stops + routes + 90 * stops - (4 * stops + routes)) MAX) l₃
          (omega (arith, c₁.long, c₂.long))
          ∙ ap (λ (k : ℕ). replicate k MAX) rows

      no_marks : (a b : ℕ) → a + b ≤ 2 * pages stops + pages routes → sect a b ms' ≡ replicate b 0
      no_marks a b h =
          let k : 2 * p + q - 0 ≡ length ms = omega arith in
          ap (sect a b) (em ∙ ap (λ (x : ℕ). overlaid 0 (replicate x 0) ms) k)
          ∙ ap (λ (x : ℕ). sect x b (overlaid 0 (replicate (length ms) 0) ms)) (sym (zero-add a))
          ∙ put_sect 0 (replicate (length ms) 0) ms (omega (arith, length-replicate {A = ℕ} (length ms) 0)) a b
          (omega (arith, length-replicate {A = ℕ} (length ms) 0))
          ∙ sect_replicate a b (length ms) 0 (omega arith)

  pub clear_is : view stops routes ws' ms' ≡ cleared stops routes d
  unfolding view cleared prev_of curr_of best_of held_of active_of parents_of mark_of held_mark_of mask_of
  clear_is =
      let f = filled in
      let no_stops = flags_none stops (pages stops) (omega arith) in
      let no-routes = flags_none routes (pages routes) (omega arith) in
      rw (
        f.low 0 (omega arith),
        f.low stops (omega arith),
        f.low (2 * stops) (omega arith),
        f.low (3 * stops) (omega arith),
        f.mid,
        f.high,
        no_parents (MOST_ROUNDS * stops),
        f.no_marks 0 (pages stops) (omega arith),
        f.no_marks (pages stops) (pages stops) (omega arith),
        f.no_marks (2 * pages stops) (pages routes) (omega arith),
        no_stops,
        no-routes,
      )

  pub clear_tidy : Tidy stops routes ws' ms'
  clear_tidy =
      let f = filled in
      record {
        known =
            λ u. record {
              rows = rw f.high (rows_blank (MOST_ROUNDS * stops));
              mark = rw (f.no_marks 0 (pages stops) (omega arith)) (spare_none stops (pages stops));
              held_mark = rw (f.no_marks (pages stops) (pages stops) (omega arith)) (spare_none stops (pages stops));
              mask = rw (f.no_marks (2 * pages stops) (pages routes) (omega arith)) (spare_none routes (pages routes));
            };
      }
