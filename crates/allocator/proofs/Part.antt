-- A part of a slice that was filled, or copied to another place.
-- Assumes nothing.
use mathlib.Core.Path.{◌≡◌, sym, ap, ◌∙◌}
use mathlib.Core.List.{List, ◌++◌, append_assoc}
use Prim.Native.Nat.{ℕ, ◌+◌, ◌-◌, ◌≤◌}
use native.Mathlib.Omega.{arith}
use lib.ListN.{length, take, drop, replicate, length-replicate}
use lib.Seq.{paste}
use borrow.Rule.Slice.PartMut.{mid_of, put_mid, Post-is, mid_len}
use Rattle.allocator.specs.Sections.{sect, overlaid}
use Rattle.allocator.proofs.Sections.{sect_length}

pub part_filled : (a e v : ℕ) (l left : List ℕ) → left ≡ replicate (length (mid_of a (e - a) l)) v → a ≤ e → e ≤ length l
    → put_mid a (e - a) l left ≡ overlaid a (replicate (e - a) v) l
unfolding overlaid
part_filled a e v l left z h g =
    let count = e - a in
    let end : a + length {A = ℕ} (replicate count v) ≡ e = omega (arith, length-replicate {A = ℕ} count v) in
    ap (λ (x : List ℕ). take a l ++ (x ++ drop count (drop a l))) (z ∙ ap (λ (x : ℕ). replicate x v) (mid_len a e l g))
    ∙ ap (λ (x : List ℕ). take a l ++ (replicate count v ++ x)) (Post-is a e l h)
    ∙ ap (λ (x : ℕ). take a l ++ (replicate count v ++ drop x l)) (sym end)

pub part_copied : (a count b e : ℕ) (l : List ℕ) → e ≡ a + count → e ≤ length l
    → paste l b (drop a l) (e - a) ≡ overlaid b (sect a count l) l
unfolding overlaid sect
part_copied a count b e l h g =
    let n : e - a ≡ count = omega arith in
    rw n (append_assoc (take b l) (take count (drop a l)) (drop (b + count) l))
    ∙ ap (λ (x : ℕ). take b l ++ (take count (drop a l) ++ drop (b + x) l)) (sym (sect_length a count l (omega arith)))
