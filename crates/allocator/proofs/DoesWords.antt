-- What is written to a section of the words before the parents: that part of the state is another.
-- Assumes nothing.
use mathlib.Core.Path.{◌≡◌, ◌∙◌}
use mathlib.Core.List.{List}
use Prim.Native.Nat.{ℕ, ◌+◌, ◌*◌, ◌≤◌, ◌<◌}
use native.Mathlib.Omega.{arith}
use lib.ListN.{length, set}
use Rattle.allocator.specs.Sections.{overlaid}
use Rattle.allocator.specs.Layout.{Sized, prev_of, curr_of, best_of, held_of, active_of, view}
use Rattle.allocator.specs.Parts.{with_prev, with_curr, with_best, with_held, with_active}
use Rattle.allocator.proofs.Sections.{Only, only_set, only_whole, sect_whole_put, set_sect, sect_behind}
use Rattle.allocator.proofs.Changes.{change_prev, change_curr, change_best, change_held, change_active}
use Rattle.allocator.proofs.Became.{Kept, Became, words_sized}

module _ (stops routes : ℕ) (ws ms : List ℕ) (z : Sized stops routes ws ms) where
  -- a change before the parents keeps them tidy
  rows_kept : {start count : ℕ} {ws' : List ℕ} → Only start count ws ws' → start + count ≤ 4 * stops + routes
      → Kept stops routes ws ms ws' ms
  rows_kept c h =
      let same = sect_behind c (4 * stops + routes) (90 * stops) h (omega arith) in
      record { tidy = λ t. record { rows = rw same t.rows; mark = t.mark; held_mark = t.held_mark; mask = t.mask } }

  -- ---- one element
  module _ (i v : ℕ) where
    pub does_curr : i < stops → Became stops routes (λ x. with_curr (set x.labels.curr i v) x) ws ms (set ws (stops + i) v) ms
    unfolding view curr_of
    does_curr h =
        let c = only_set stops stops ws i v h in
        record {
          is = change_curr stops routes ws (set ws (stops + i) v) ms z.words c ∙ rw (set_sect stops stops ws i v h);
          kept = rows_kept c (omega arith);
          sized = words_sized z c.long;
        }

    pub does_best : i < stops → Became stops routes (λ x. with_best (set x.labels.best i v) x) ws ms (set ws (2 * stops + i) v) ms
    unfolding view best_of
    does_best h =
        let c = only_set (2 * stops) stops ws i v h in
        record {
          is = change_best stops routes ws (set ws (2 * stops + i) v) ms z.words c ∙ rw (set_sect (2 * stops) stops ws i v h);
          kept = rows_kept c (omega arith);
          sized = words_sized z c.long;
        }

    pub does_active : i < routes → Became stops routes (λ x. with_active (set x.active i v) x) ws ms (set ws (4 * stops + i) v) ms
    unfolding view active_of
    does_active h =
        let c = only_set (4 * stops) routes ws i v h in
        record {
          is = change_active stops routes ws (set ws (4 * stops + i) v) ms z.words c ∙ rw (set_sect (4 * stops) routes ws i v h);
          kept = rows_kept c (omega arith);
          sized = words_sized z c.long;
        }

  -- ---- a whole section
  module _ (xs : List ℕ) where
    pub does_prevs : length xs ≡ stops → Became stops routes (with_prev xs) ws ms (overlaid 0 xs ws) ms
    unfolding prev_of
    does_prevs l =
        let c = only_whole 0 stops ws xs l (omega arith) in
        record {
          is = change_prev stops routes ws (overlaid 0 xs ws) ms z.words c ∙ rw (sect_whole_put 0 stops ws xs l (omega arith));
          kept = rows_kept c (omega arith);
          sized = words_sized z c.long;
        }

    pub does_currs : length xs ≡ stops → Became stops routes (with_curr xs) ws ms (overlaid stops xs ws) ms
    unfolding curr_of
    does_currs l =
        let c = only_whole stops stops ws xs l (omega arith) in
        record {
          is = change_curr stops routes ws (overlaid stops xs ws) ms z.words c ∙ rw (sect_whole_put stops stops ws xs l (omega arith));
          kept = rows_kept c (omega arith);
          sized = words_sized z c.long;
        }

    pub does_helds : length xs ≡ stops → Became stops routes (with_held xs) ws ms (overlaid (3 * stops) xs ws) ms
    unfolding held_of
    does_helds l =
        let c = only_whole (3 * stops) stops ws xs l (omega arith) in
        record {
          is =
              change_held stops routes ws (overlaid (3 * stops) xs ws) ms z.words c
              ∙ rw (sect_whole_put (3 * stops) stops ws xs l (omega arith));
          kept = rows_kept c (omega arith);
          sized = words_sized z c.long;
        }

    pub does_actives : length xs ≡ routes → Became stops routes (with_active xs) ws ms (overlaid (4 * stops) xs ws) ms
    unfolding active_of
    does_actives l =
        let c = only_whole (4 * stops) routes ws xs l (omega arith) in
        record {
          is =
              change_active stops routes ws (overlaid (4 * stops) xs ws) ms z.words c
              ∙ rw (sect_whole_put (4 * stops) routes ws xs l (omega arith));
          kept = rows_kept c (omega arith);
          sized = words_sized z c.long;
        }
