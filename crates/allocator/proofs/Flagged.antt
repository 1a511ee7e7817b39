-- Marks as flags: what a new mark and cleared words do to them, and the marked places in order.
-- Assumes nothing.
use mathlib.Core.Path.{◌≡◌, refl, sym, ap, ◌∙◌}
use mathlib.Core.Bool.{Bool, true, false, cond}
use mathlib.Core.List.{List, ◌∷◌}
use Prim.Native.Nat.{ℕ, zero, suc, ◌+◌, ◌-◌, ◌*◌, ◌/◌, ◌%◌, ◌^◌, ◌≤◌, ◌<◌}
use native.Mathlib.Nat.{zero-add, mod-lt}
use native.Mathlib.Omega.{arith}
use borrow.Author.Tests.{eqb-true, eqb-false}
use lib.Bits.{bit_or, or_lt}
use lib.Dec.{eqb, lit<}
use lib.ListN.{length, get_or, set, replicate, length-replicate}
use lib.Pow.{pow-lt}
use lib.Seq.{get_or-set_same, get_or-set_other}
use Rattle.base.proofs.Choice.{split}
use Rattle.base.specs.Tab.{tab}
use Rattle.marks.specs.Marks.{marked, with_mark, keep, chosen_from, chosen, marked_stops}
use Rattle.marks.proofs.Laws.{mark_length, mark_same, mark_other, clear_none}
use Rattle.model.specs.Lists.{set_in}
use Rattle.allocator.specs.Sections.{sect}
use Rattle.allocator.specs.Layout.{flags}
use Rattle.allocator.specs.Marked.{after}
use Rattle.allocator.specs.Tidy.{Spare}
use Rattle.allocator.proofs.Sections.{Only, only_set, sect_get, set_sect}
use Rattle.allocator.proofs.Tabulated.{tab_all, tab_set, tab_drop}

-- mark t of the b words from word q on
pub mark_sect : (q b : ℕ) (ms : List ℕ) (t : ℕ) → t < 64 * b → sect q b (with_mark ms (64 * q + t)) ≡ with_mark (sect q b ms) t
unfolding with_mark
mark_sect q b ms t h =
    let word : (64 * q + t) / 64 ≡ q + t / 64 = omega arith in
    let digit : (64 * q + t) % 64 ≡ t % 64 = omega arith in
    let i : t / 64 < b = omega arith in
    rw (word, digit, ← sect_get q b ms (t / 64) i) (set_sect q b ms (t / 64) _ i)

pub only_mark : (q b : ℕ) (ms : List ℕ) (t : ℕ) → t < 64 * b → Only q b ms (with_mark ms (64 * q + t))
unfolding with_mark
only_mark q b ms t h =
    let word : (64 * q + t) / 64 ≡ q + t / 64 = omega arith in
    rw word (only_set q b ms (t / 64) _ (omega arith))

-- ---- a new mark
module _ (count : ℕ) (x : List ℕ) (t : ℕ) (in_range_lem : t < count) (room : count ≤ 64 * length x) where
  pub flags_more : flags count (with_mark x t) ≡ set (flags count x) t true
  unfolding flags
  flags_more =
      tab_set (marked x) (marked (with_mark x t)) count t true in_range_lem (mark_same x t (omega arith))
      (λ k h other. mark_other x t k (omega arith) other)

  pub spare_more : Spare count x → Spare count (with_mark x t)
  unfolding with_mark
  spare_more z = record { clear = clear; fits = fits }
    where
      clear : (k : ℕ) → count ≤ k → k < 64 * length (with_mark x t) → marked (with_mark x t) k ≡ false
      clear k g l = mark_other x t k (omega arith) (λ e. absurd (omega arith)) ∙ z.clear k g (omega (arith, mark_length x t))

      fits : (i : ℕ) → get_or (with_mark x t) i 0 < 2 ^ 64
      fits i =
          let one = or_lt 64 (get_or x (t / 64) 0) (2 ^ (t % 64)) (z.fits (t / 64)) (pow-lt (mod-lt t (lit< tt))) in
          split (eqb i (t / 64))
          (λ e.
          let here : i ≡ t / 64 = eqb-true i (t / 64) e in
          let inside : t / 64 < length x = omega arith in
          rw (here, get_or-set_same x (t / 64) (bit_or (get_or x (t / 64) 0) (2 ^ (t % 64))) 0 inside) one)
          (λ e.
          let there : i ≡ t / 64 → ⊥ = eqb-false i (t / 64) e in
          rw (get_or-set_other x (t / 64) i (bit_or (get_or x (t / 64) 0) (2 ^ (t % 64))) 0 there) (z.fits i))

-- ---- no marks
pub flags_none : (count p : ℕ) → count ≤ 64 * p → flags count (replicate p 0) ≡ replicate count false
unfolding flags
flags_none count p h = tab_all (marked (replicate p 0)) count false (λ k l. clear_none p k (omega arith))

pub spare_none : (count p : ℕ) → Spare count (replicate p 0)
spare_none count p = record {
  clear = λ t g l. clear_none p t (omega (arith, length-replicate {A = ℕ} p 0));
  fits = λ i. omega (arith, zeros p i);
}
  where
    zeros : (p i : ℕ) → ◌≡◌ {A = ℕ} (get_or (replicate p 0) i 0) 0
    zeros zero i = refl
    zeros (suc p) zero = refl
    zeros (suc p) (suc i) = zeros p i

-- ---- the marked places in order
keeps : (b : Bool) (i : ℕ) (l : List ℕ) → keep b i l ≡ cond b (i ∷ l) l
keeps true i l = refl
keeps false i l = refl

in_order : (f : ℕ → Bool) (count i : ℕ) → chosen_from f count i ≡ set_in i (tab f count i)
unfolding chosen_from set_in tab
in_order f zero i = refl
in_order f (suc count) i = keeps (f i) i (chosen_from f count (suc i)) ∙ ap (λ (l : List ℕ). cond (f i) (i ∷ l) l) (in_order f count (suc i))

pub stops_after : (x : List ℕ) (count i : ℕ) → marked_stops x i count ≡ after i (flags count x)
unfolding chosen after flags
stops_after x count i =
    in_order (marked x) (count - i) i ∙ ap (set_in i) (sym (tab_drop (marked x) count 0 i ∙ ap (tab (marked x) (count - i)) (zero-add i)))
