-- What a row written to the parents does: that parent is another.
-- Assumes nothing.
use mathlib.Core.Path.{◌≡◌, sym, ap, ◌∙◌}
use mathlib.Core.List.{List}
use Rattle.std.specs.Prelude.{Option, Some}
use Prim.Native.Nat.{ℕ, ◌+◌, ◌*◌, ◌<◌}
use native.Mathlib.Omega.{arith}
use borrow.Author.Tests.{ltb-true, ltb-false, eqb-true, eqb-false}
use lib.Dec.{eqb, ltb}
use lib.ListN.{set}
use Rattle.base.proofs.Choice.{split}
use Rattle.model.specs.declared.Leg.{Leg}
use Rattle.model.specs.Limits.{MOST_ROUNDS}
use Rattle.allocator.specs.Sections.{sect, overlaid}
use Rattle.allocator.specs.Rows.{leg_row, encoded, decoded, row_of, parent_in, parents}
use Rattle.allocator.specs.Layout.{Sized, parents_of, view}
use Rattle.allocator.specs.Tidy.{Rows}
use Rattle.allocator.specs.Parts.{with_parents}
use Rattle.allocator.proofs.Sections.{Only, only_put, only_whole, sect_whole_put, sect_sect, sect_before, sect_behind}
use Rattle.allocator.proofs.Tabulated.{tab_set}
use Rattle.allocator.proofs.Rowed.{decode_encode, encoded_length}
use Rattle.allocator.proofs.Changes.{change_parents}
use Rattle.allocator.proofs.Became.{Became, words_sized}

module _ (stops routes : ℕ) (ws ms : List ℕ) (z : Sized stops routes ws ms) (i : ℕ) (g : Leg) (inside : i < MOST_ROUNDS * stops) where
  -- the words with the row of g
  new : List ℕ
  new = overlaid (4 * stops + routes + i * 6) (encoded (Some g)) ws

  old_rows : List ℕ
  old_rows = sect (4 * stops + routes) (90 * stops) ws

  new_rows : List ℕ
  new_rows = sect (4 * stops + routes) (90 * stops) new

  whole : Only (4 * stops + routes) (90 * stops) ws new
  unfolding new
  whole =
      let l = encoded_length (Some g) in
      only_put (4 * stops + routes) (90 * stops) ws (i * 6) (encoded (Some g)) (omega arith) (omega arith)

  -- the row is there
  row_new : row_of new_rows i ≡ encoded (Some g)
  unfolding row_of new new_rows
  row_new =
      let l = encoded_length (Some g) in
      let long = whole.long in
      sect_sect (4 * stops + routes) (90 * stops) new (i * 6) 6 (omega arith) (omega arith)
      ∙ sect_whole_put (4 * stops + routes + i * 6) 6 ws (encoded (Some g)) l (omega arith)

  -- the others are as they were
  row_old : (j : ℕ) → j < MOST_ROUNDS * stops → (j ≡ i → ⊥) → row_of new_rows j ≡ row_of old_rows j
  unfolding row_of new new_rows old_rows
  row_old j h other =
      let long = whole.long in
      let c = only_whole (4 * stops + routes + i * 6) 6 ws (encoded (Some g)) (encoded_length (Some g)) (omega arith) in
      sect_sect (4 * stops + routes) (90 * stops) new (j * 6) 6 (omega arith) (omega arith)
      ∙ split (ltb j i)
      (λ l. let l' = ltb-true j i l in sect_before c (4 * stops + routes + j * 6) 6 (omega arith) (omega arith))
      (λ l. let l' = ltb-false j i l in sect_behind c (4 * stops + routes + j * 6) 6 (omega arith) (omega arith))
      ∙ sym (sect_sect (4 * stops + routes) (90 * stops) ws (j * 6) 6 (omega arith) (omega arith))

  parents_new : parents (MOST_ROUNDS * stops) new_rows ≡ set (parents (MOST_ROUNDS * stops) old_rows) i (Some g)
  unfolding parents parent_in
  parents_new =
      tab_set (parent_in old_rows) (parent_in new_rows) (MOST_ROUNDS * stops) i (Some g) inside
      (ap decoded row_new ∙ decode_encode (Some g)) (λ j h other. ap decoded (row_old j h other))

  rows_new : Rows (MOST_ROUNDS * stops) old_rows → Rows (MOST_ROUNDS * stops) new_rows
  unfolding parent_in
  rows_new t = record { written = written }
    where
      written : (j : ℕ) → j < MOST_ROUNDS * stops → row_of new_rows j ≡ encoded (parent_in new_rows j)
      written j h =
          split (eqb j i)
          (λ e.
          let same : j ≡ i = eqb-true j i e in
          rw same (row_new ∙ ap encoded (sym (ap decoded row_new ∙ decode_encode (Some g)))))
          (λ e.
          let other : j ≡ i → ⊥ = eqb-false j i e in
          let kept = row_old j h other in
          kept ∙ t.written j h ∙ ap (λ (x : List ℕ). encoded (decoded x)) (sym kept))

  pub does_parent : Became stops routes (λ x. with_parents (set x.parents i (Some g)) x) ws ms
      (overlaid (4 * stops + routes + i * 6) (leg_row g) ws) ms
  unfolding view parents_of encoded new old_rows new_rows
  does_parent = record {
    is =
        change_parents stops routes ws new ms z.words whole
        ∙ ap (λ (x : List (Option Leg)). with_parents x (view stops routes ws ms)) parents_new;
    kept = record { tidy = λ t. record { rows = rows_new t.rows; mark = t.mark; held_mark = t.held_mark; mask = t.mask } };
    sized = words_sized z whole.long;
  }
