-- What is written to a section of the marks: those flags of the state are others.
-- Assumes nothing.
use mathlib.Core.Path.{◌≡◌, ◌∙◌}
use mathlib.Core.Bool.{true, false}
use mathlib.Core.List.{List}
use Prim.Native.Nat.{ℕ, ◌+◌, ◌*◌, ◌<◌}
use native.Mathlib.Omega.{arith}
use lib.ListN.{length, set, replicate, length-replicate}
use Rattle.marks.specs.Marks.{with_mark}
use Rattle.allocator.specs.Sections.{sect, overlaid}
use Rattle.allocator.specs.Layout.{pages, Sized, flags, mark_of, held_mark_of, mask_of, view}
use Rattle.allocator.specs.Tidy.{Spare, TidyParts}
use Rattle.allocator.specs.Parts.{with_marks, with_held_mark, with_mask}
use Rattle.allocator.proofs.Sections.{Only, only_whole, sect_whole_put, sect_length, sect_before, sect_behind}
use Rattle.allocator.proofs.Flagged.{mark_sect, only_mark, flags_more, spare_more, flags_none, spare_none}
use Rattle.allocator.proofs.Changes.{change_mark, change_held_mark, change_mask}
use Rattle.allocator.proofs.Became.{Kept, Became, marks_sized}

module _ (stops routes : ℕ) (ws ms : List ℕ) (z : Sized stops routes ws ms) where
  -- each section of the marks is as it was, or tidy again
  marks_kept : {ms' : List ℕ} → (Spare stops (sect 0 (pages stops) ms) → Spare stops (sect 0 (pages stops) ms'))
      → (TidyParts stops routes ws ms → Spare stops (sect (pages stops) (pages stops) ms'))
      → (Spare routes (sect (2 * pages stops) (pages routes) ms) → Spare routes (sect (2 * pages stops) (pages routes) ms'))
      → Kept stops routes ws ms ws ms'
  marks_kept a b c = record {
    tidy = λ t. record { rows = t.rows; mark = a t.mark; held_mark = b t; mask = c t.mask };
  }

  -- the stops' marks changed, or the held ones, or the routes'
  module _ {ms' : List ℕ} where
    stops_kept : Only 0 (pages stops) ms ms' → (Spare stops (sect 0 (pages stops) ms) → Spare stops (sect 0 (pages stops) ms'))
        → Kept stops routes ws ms ws ms'
    stops_kept c f =
        let held_mark = sect_behind c (pages stops) (pages stops) (omega arith) (omega arith) in
        let mask = sect_behind c (2 * pages stops) (pages routes) (omega arith) (omega arith) in
        marks_kept f (λ t. rw held_mark t.held_mark) (λ t. rw mask t)

    held_kept : Only (pages stops) (pages stops) ms ms'
        → (TidyParts stops routes ws ms → Spare stops (sect (pages stops) (pages stops) ms')) → Kept stops routes ws ms ws ms'
    held_kept c f =
        let mark = sect_before c 0 (pages stops) (omega arith) (omega arith) in
        let mask = sect_behind c (2 * pages stops) (pages routes) (omega arith) (omega arith) in
        marks_kept (λ t. rw mark t) f (λ t. rw mask t)

    mask_kept : Only (2 * pages stops) (pages routes) ms ms'
        → (Spare routes (sect (2 * pages stops) (pages routes) ms) → Spare routes (sect (2 * pages stops) (pages routes) ms'))
        → Kept stops routes ws ms ws ms'
    mask_kept c f =
        let mark = sect_before c 0 (pages stops) (omega arith) (omega arith) in
        let held_mark = sect_before c (pages stops) (pages stops) (omega arith) (omega arith) in
        marks_kept (λ t. rw mark t) (λ t. rw held_mark t.held_mark) f

  pub does_mark : (i : ℕ) → i < stops → Became stops routes (λ x. with_marks (set x.labels.mark i true) x) ws ms ws (with_mark ms i)
  unfolding view mark_of
  does_mark i h =
      let x = sect 0 (pages stops) ms in
      let here : 64 * 0 + i ≡ i = omega arith in
      let c : Only 0 (pages stops) ms (with_mark ms i) = rw here at (only_mark 0 (pages stops) ms i (omega arith)) in
      let new : sect 0 (pages stops) (with_mark ms i) ≡ with_mark x i = rw here at (mark_sect 0 (pages stops) ms i (omega arith)) in
      let long = sect_length 0 (pages stops) ms (omega arith) in
      let more : flags stops (with_mark x i) ≡ set (flags stops x) i true = flags_more stops x i h (omega arith) in
      record {
        is = change_mark stops routes ws ms (with_mark ms i) z.marks c ∙ rw (new, more);
        kept = stops_kept c (λ t. rw new (spare_more stops x i h (omega arith) t));
        sized = marks_sized z c.long;
      }

  pub does_mask : (i : ℕ) → i < routes
      → Became stops routes (λ x. with_mask (set x.mask i true) x) ws ms ws (with_mark ms (64 * (2 * pages stops) + i))
  unfolding view mask_of
  does_mask i h =
      let q = 2 * pages stops in
      let x = sect q (pages routes) ms in
      let ms' = with_mark ms (64 * q + i) in
      let c : Only q (pages routes) ms ms' = only_mark q (pages routes) ms i (omega arith) in
      let new : sect q (pages routes) ms' ≡ with_mark x i = mark_sect q (pages routes) ms i (omega arith) in
      let long = sect_length q (pages routes) ms (omega arith) in
      let more : flags routes (with_mark x i) ≡ set (flags routes x) i true = flags_more routes x i h (omega arith) in
      record {
        is = change_mask stops routes ws ms ms' z.marks c ∙ rw (new, more);
        kept = mask_kept c (λ t. rw new (spare_more routes x i h (omega arith) t));
        sized = marks_sized z c.long;
      }

  pub does_unmark : Became stops routes (with_marks (replicate stops false)) ws ms ws (overlaid 0 (replicate (pages stops) 0) ms)
  unfolding mark_of
  does_unmark =
      let xs : List ℕ = replicate (pages stops) 0 in
      let l : length xs ≡ pages stops = length-replicate (pages stops) 0 in
      let c = only_whole 0 (pages stops) ms xs l (omega arith) in
      let new : sect 0 (pages stops) (overlaid 0 xs ms) ≡ xs = sect_whole_put 0 (pages stops) ms xs l (omega arith) in
      let none : flags stops xs ≡ replicate stops false = flags_none stops (pages stops) (omega arith) in
      record {
        is = change_mark stops routes ws ms (overlaid 0 xs ms) z.marks c ∙ rw (new, none);
        kept = stops_kept c (λ t. rw new (spare_none stops (pages stops)));
        sized = marks_sized z c.long;
      }

  pub does_unmask : Became stops routes (with_mask (replicate routes false)) ws ms ws
      (overlaid (2 * pages stops) (replicate (pages routes) 0) ms)
  unfolding mask_of
  does_unmask =
      let q = 2 * pages stops in
      let xs : List ℕ = replicate (pages routes) 0 in
      let l : length xs ≡ pages routes = length-replicate (pages routes) 0 in
      let c = only_whole q (pages routes) ms xs l (omega arith) in
      let new : sect q (pages routes) (overlaid q xs ms) ≡ xs = sect_whole_put q (pages routes) ms xs l (omega arith) in
      let none : flags routes xs ≡ replicate routes false = flags_none routes (pages routes) (omega arith) in
      record {
        is = change_mask stops routes ws ms (overlaid q xs ms) z.marks c ∙ rw (new, none);
        kept = mask_kept c (λ t. rw new (spare_none routes (pages routes)));
        sized = marks_sized z c.long;
      }

  pub does_hold_marks : Became stops routes (λ x. with_held_mark x.labels.mark x) ws ms ws
      (overlaid (pages stops) (sect 0 (pages stops) ms) ms)
  unfolding view mark_of held_mark_of
  does_hold_marks =
      let p = pages stops in
      let xs = sect 0 p ms in
      let l : length xs ≡ p = sect_length 0 p ms (omega arith) in
      let c = only_whole p p ms xs l (omega arith) in
      let new : sect p p (overlaid p xs ms) ≡ xs = sect_whole_put p p ms xs l (omega arith) in
      record {
        is = change_held_mark stops routes ws ms (overlaid p xs ms) z.marks c ∙ rw new;
        kept = held_kept c (λ t. rw new t.mark);
        sized = marks_sized z c.long;
      }
