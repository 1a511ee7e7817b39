-- A state stands in one way only: two workspaces that are sized and tidy and hold the same state are equal, word
-- for word.
-- Assumes nothing.
use mathlib.Core.Path.{◌≡◌, sym, ap, ◌∙◌}
use mathlib.Core.Bool.{true}
use mathlib.Core.List.{List}
use Rattle.std.specs.Prelude.{None}
use Prim.Native.Nat.{ℕ, zero, suc, ◌+◌, ◌*◌, ◌/◌, ◌%◌, ◌^◌, ◌≤◌, ◌<◌}
use native.Mathlib.Nat.{pow-suc}
use native.Mathlib.Omega.{arith}
use borrow.Author.Tests.{ltb-true, ltb-false, eqb-true, eqb-false}
use lib.Dec.{eqb, ltb}
use lib.ListN.{length, get_or, drop, take-append-drop, drop_of_length-le}
use lib.Seq.{ext_get_or, drop-drop}
use Rattle.base.specs.Bits.{bit}
use Rattle.base.proofs.Bits.{bit_lt}
use Rattle.base.proofs.Choice.{split}
use Rattle.marks.specs.Marks.{marked}
use Rattle.model.specs.Limits.{MOST_ROUNDS}
use Rattle.model.specs.Work.{Work}
use Rattle.allocator.specs.Sections.{sect}
use Rattle.allocator.specs.Rows.{encoded, row_of, parent_in, parents}
use Rattle.allocator.specs.Layout.{pages, Sized, flags, prev_of, curr_of, best_of, held_of, active_of, parents_of, mark_of}
use Rattle.allocator.specs.Layout.{held_mark_of, mask_of, view}
use Rattle.allocator.specs.Tidy.{Rows, Spare, Tidy}
use Rattle.allocator.proofs.Sections.{sect_get, sect_length}
use Rattle.allocator.proofs.Tabulated.{tab_each}

-- ---- the parents
module _ (count : ℕ) (x y : List ℕ) (lx : length x ≡ count * 6) (ly : length y ≡ count * 6) where
  rows_same : Rows count x → Rows count y → parents count x ≡ parents count y → x ≡ y
  unfolding parents row_of
  rows_same a b e = ext_get_or 0 x y (lx ∙ sym ly) each
    where
      row : (j : ℕ) → j < count → sect (j * 6) 6 x ≡ sect (j * 6) 6 y
      row j h =
          a.written j h
          ∙ ap encoded (tab_each (parent_in y) (parent_in x) count None e j h)
          ∙ sym (b.written j h)

      each : (i : ℕ) → i < length x → get_or x i 0 ≡ get_or y i 0
      each i h =
          let j = i / 6 in
          let k = i % 6 in
          let there : j * 6 + k ≡ i = omega arith in
          let inside : k < 6 = omega arith in
          ap (λ (t : ℕ). get_or x t 0) (sym there)
          ∙ sym (sect_get (j * 6) 6 x k inside)
          ∙ ap (λ (l : List ℕ). get_or l k 0) (row j (omega arith))
          ∙ sect_get (j * 6) 6 y k inside
          ∙ ap (λ (t : ℕ). get_or y t 0) there

-- ---- the marks
-- a number is known by its digits
digits_same : (k x y : ℕ) → x < 2 ^ k → y < 2 ^ k → ((j : ℕ) → j < k → bit x j ≡ bit y j) → x ≡ y
unfolding bit
digits_same zero x y g h e = omega arith
digits_same (suc k) x y g h e =
    let low : x % 2 ≡ y % 2 = e 0 (omega arith) in
    let p = pow-suc 2 k in
    let high : x / 2 ≡ y / 2 = digits_same k (x / 2) (y / 2) (omega arith) (omega arith) (λ j l. e (suc j) (omega arith)) in
    omega arith

-- a digit is known by the test that it is 1
digit_same : (a b : ℕ) → a < 2 → b < 2 → eqb a 1 ≡ eqb b 1 → a ≡ b
digit_same a b g h e =
    split (eqb a 1)
    (λ t. let p : a ≡ 1 = eqb-true a 1 t in let q : b ≡ 1 = eqb-true b 1 (sym e ∙ t) in omega arith)
    (λ t. let p : a ≡ 1 → ⊥ = eqb-false a 1 t in let q : b ≡ 1 → ⊥ = eqb-false b 1 (sym e ∙ t) in omega arith)

module _ (count : ℕ) (x y : List ℕ) (long : length x ≡ length y) where
  marks_same : Spare count x → Spare count y → flags count x ≡ flags count y → x ≡ y
  unfolding flags marked
  marks_same a b e = ext_get_or 0 x y long word
    where
      mark : (t : ℕ) → t < 64 * length x → marked x t ≡ marked y t
      mark t h =
          split (ltb t count)
          (λ l. tab_each (marked y) (marked x) count true e t (ltb-true t count l))
          (λ l. let l' = ltb-false t count l in a.clear t l' h ∙ sym (b.clear t l' (omega arith)))

      digit : (i j : ℕ) → i < length x → j < 64 → bit (get_or x i 0) j ≡ bit (get_or y i 0) j
      digit i j h l =
          let page : (i * 64 + j) / 64 ≡ i = omega arith in
          let d : (i * 64 + j) % 64 ≡ j = omega arith in
          let here : eqb (bit (get_or x i 0) j) 1 ≡ eqb (bit (get_or y i 0) j) 1 = rw (page, d) at (mark (i * 64 + j) (omega arith)) in
          digit_same (bit (get_or x i 0) j) (bit (get_or y i 0) j) (bit_lt (get_or x i 0) j) (bit_lt (get_or y i 0) j) here

      word : (i : ℕ) → i < length x → get_or x i 0 ≡ get_or y i 0
      word i h = digits_same 64 (get_or x i 0) (get_or y i 0) (a.fits i) (b.fits i) (λ j l. digit i j h l)

-- ---- section after section
next : (start count e : ℕ) (ws ws' : List ℕ) → e ≡ start + count → sect start count ws ≡ sect start count ws' → drop e ws ≡ drop e ws'
    → drop start ws ≡ drop start ws'
unfolding sect
next start count e ws ws' p a b =
    sym (take-append-drop count (drop start ws))
    ∙ rw (a, drop-drop count start ws, ← p, b, p, ← drop-drop count start ws') (take-append-drop count (drop start ws'))

past : (start : ℕ) (ws ws' : List ℕ) → length ws ≡ start → length ws' ≡ start → drop start ws ≡ drop start ws'
past start ws ws' a b =
    let p : length ws ≤ start = omega arith in
    let q : length ws' ≤ start = omega arith in
    drop_of_length-le ws p ∙ sym (drop_of_length-le ws' q)

module _ (stops routes : ℕ) (ws ms ws' ms' : List ℕ) (sized : Sized stops routes ws ms) (sized' : Sized stops routes ws' ms')
    (tidy : Tidy stops routes ws ms) (tidy' : Tidy stops routes ws' ms')
    (e : view stops routes ws ms ≡ view stops routes ws' ms') where
  words_same : ws ≡ ws'
  unfolding view prev_of curr_of best_of held_of active_of parents_of
  words_same =
      let start = 4 * stops + routes in
      let long-ws = sect_length start (90 * stops) ws (omega arith) in
      let long-ws' = sect_length start (90 * stops) ws' (omega arith) in
      next 0 stops stops ws ws' (omega arith) (ap (λ (x : Work). x.prev) e)
      (next stops stops (2 * stops) ws ws' (omega arith) (ap (λ (x : Work). x.labels.curr) e)
      (next (2 * stops) stops (3 * stops) ws ws' (omega arith) (ap (λ (x : Work). x.labels.best) e)
      (next (3 * stops) stops (4 * stops) ws ws' (omega arith) (ap (λ (x : Work). x.held) e)
      (next (4 * stops) routes start ws ws' (omega arith) (ap (λ (x : Work). x.active) e)
      (next start (90 * stops) (94 * stops + routes) ws ws' (omega arith)
      (rows_same (MOST_ROUNDS * stops) (sect start (90 * stops) ws) (sect start (90 * stops) ws') (omega arith) (omega arith)
      (tidy.known tt).rows (tidy'.known tt).rows
      (ap (λ (x : Work). x.parents) e))
      (past (94 * stops + routes) ws ws' (omega arith) (omega arith)))))))

  all_marks_same : ms ≡ ms'
  unfolding view mark_of held_mark_of mask_of
  all_marks_same =
      let p = pages stops in
      let q = pages routes in
      let part : (k start b : ℕ) → start + b ≤ 2 * p + q → Spare k (sect start b ms) → Spare k (sect start b ms')
      → flags k (sect start b ms) ≡ flags k (sect start b ms') → sect start b ms ≡ sect start b ms' =
      λ k start b h. marks_same k (sect start b ms) (sect start b ms')
      (sect_length start b ms (omega arith) ∙ sym (sect_length start b ms' (omega arith))) in
      next 0 p p ms ms' (omega arith)
      (part stops 0 p (omega arith) (tidy.known tt).mark (tidy'.known tt).mark (ap (λ (x : Work). x.labels.mark) e))
      (next p p (2 * p) ms ms' (omega arith)
      (part stops p p (omega arith) (tidy.known tt).held_mark (tidy'.known tt).held_mark (ap (λ (x : Work). x.held_mark) e))
      (next (2 * p) q (2 * p + q) ms ms' (omega arith)
      (part routes (2 * p) q (omega arith) (tidy.known tt).mask (tidy'.known tt).mask (ap (λ (x : Work). x.mask) e))
      (past (2 * p + q) ms ms' (omega arith) (omega arith))))

  -- so what a contract says of the view it says of everything lent
  pub same_words : (ws ≡ ws') × (ms ≡ ms')
  same_words = (words_same, all_marks_same)
