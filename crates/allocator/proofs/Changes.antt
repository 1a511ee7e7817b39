-- The state after one section of the words or of the marks has changed: only that part of it is another.
-- Assumes nothing.
use mathlib.Core.Path.{◌≡◌}
use mathlib.Core.List.{List}
use Prim.Native.Nat.{ℕ, ◌+◌, ◌*◌}
use native.Mathlib.Omega.{arith}
use Rattle.allocator.specs.Layout.{pages, Words, Marks, prev_of, curr_of, best_of, held_of, active_of, parents_of, mark_of}
use Rattle.allocator.specs.Layout.{held_mark_of, mask_of, view}
use Rattle.allocator.specs.Parts.{with_prev, with_curr, with_best, with_marks, with_held, with_held_mark, with_active, with_mask, with_parents}
use Rattle.allocator.proofs.Sections.{Only, sect_before, sect_behind}

-- ---- a section of the words
module _ (stops routes : ℕ) (ws ws' ms : List ℕ) (z : Words stops routes ws) where
  pub change_prev : Only 0 stops ws ws' → view stops routes ws' ms ≡ with_prev (prev_of stops routes ws') (view stops routes ws ms)
  unfolding view prev_of curr_of best_of held_of active_of parents_of with_prev
  change_prev c =
      cc (
        sect_behind c stops stops (omega arith) (omega arith),
        sect_behind c (2 * stops) stops (omega arith) (omega arith),
        sect_behind c (3 * stops) stops (omega arith) (omega arith),
        sect_behind c (4 * stops) routes (omega arith) (omega arith),
        sect_behind c (4 * stops + routes) (90 * stops) (omega arith) (omega arith),
      )

  pub change_curr : Only stops stops ws ws' → view stops routes ws' ms ≡ with_curr (curr_of stops routes ws') (view stops routes ws ms)
  unfolding view prev_of curr_of best_of held_of active_of parents_of with_curr
  change_curr c =
      cc (
        sect_before c 0 stops (omega arith) (omega arith),
        sect_behind c (2 * stops) stops (omega arith) (omega arith),
        sect_behind c (3 * stops) stops (omega arith) (omega arith),
        sect_behind c (4 * stops) routes (omega arith) (omega arith),
        sect_behind c (4 * stops + routes) (90 * stops) (omega arith) (omega arith),
      )

  pub change_best : Only (2 * stops) stops ws ws' → view stops routes ws' ms ≡ with_best (best_of stops routes ws') (view stops routes ws ms)
  unfolding view prev_of curr_of best_of held_of active_of parents_of with_best
  change_best c =
      cc (
        sect_before c 0 stops (omega arith) (omega arith),
        sect_before c stops stops (omega arith) (omega arith),
        sect_behind c (3 * stops) stops (omega arith) (omega arith),
        sect_behind c (4 * stops) routes (omega arith) (omega arith),
        sect_behind c (4 * stops + routes) (90 * stops) (omega arith) (omega arith),
      )

  pub change_held : Only (3 * stops) stops ws ws' → view stops routes ws' ms ≡ with_held (held_of stops routes ws') (view stops routes ws ms)
  unfolding view prev_of curr_of best_of held_of active_of parents_of with_held
  change_held c =
      cc (
        sect_before c 0 stops (omega arith) (omega arith),
        sect_before c stops stops (omega arith) (omega arith),
        sect_before c (2 * stops) stops (omega arith) (omega arith),
        sect_behind c (4 * stops) routes (omega arith) (omega arith),
        sect_behind c (4 * stops + routes) (90 * stops) (omega arith) (omega arith),
      )

  pub change_active : Only (4 * stops) routes ws ws'
      → view stops routes ws' ms ≡ with_active (active_of stops routes ws') (view stops routes ws ms)
  unfolding view prev_of curr_of best_of held_of active_of parents_of with_active
  change_active c =
      cc (
        sect_before c 0 stops (omega arith) (omega arith),
        sect_before c stops stops (omega arith) (omega arith),
        sect_before c (2 * stops) stops (omega arith) (omega arith),
        sect_before c (3 * stops) stops (omega arith) (omega arith),
        sect_behind c (4 * stops + routes) (90 * stops) (omega arith) (omega arith),
      )

  pub change_parents : Only (4 * stops + routes) (90 * stops) ws ws'
      → view stops routes ws' ms ≡ with_parents (parents_of stops routes ws') (view stops routes ws ms)
  unfolding view prev_of curr_of best_of held_of active_of parents_of with_parents
  change_parents c =
      cc (
        sect_before c 0 stops (omega arith) (omega arith),
        sect_before c stops stops (omega arith) (omega arith),
        sect_before c (2 * stops) stops (omega arith) (omega arith),
        sect_before c (3 * stops) stops (omega arith) (omega arith),
        sect_before c (4 * stops) routes (omega arith) (omega arith),
      )

-- ---- a section of the marks
module _ (stops routes : ℕ) (ws ms ms' : List ℕ) (z : Marks stops routes ms) where
  pub change_mark : Only 0 (pages stops) ms ms' → view stops routes ws ms' ≡ with_marks (mark_of stops routes ms') (view stops routes ws ms)
  unfolding view mark_of held_mark_of mask_of with_marks
  change_mark c =
      cc (
        sect_behind c (pages stops) (pages stops) (omega arith) (omega arith),
        sect_behind c (2 * pages stops) (pages routes) (omega arith) (omega arith),
      )

  pub change_held_mark : Only (pages stops) (pages stops) ms ms'
      → view stops routes ws ms' ≡ with_held_mark (held_mark_of stops routes ms') (view stops routes ws ms)
  unfolding view mark_of held_mark_of mask_of with_held_mark
  change_held_mark c =
      cc (
        sect_before c 0 (pages stops) (omega arith) (omega arith),
        sect_behind c (2 * pages stops) (pages routes) (omega arith) (omega arith),
      )

  pub change_mask : Only (2 * pages stops) (pages routes) ms ms'
      → view stops routes ws ms' ≡ with_mask (mask_of stops routes ms') (view stops routes ws ms)
  unfolding view mark_of held_mark_of mask_of with_mask
  change_mask c =
      cc (
        sect_before c 0 (pages stops) (omega arith) (omega arith),
        sect_before c (pages stops) (pages stops) (omega arith) (omega arith),
      )
