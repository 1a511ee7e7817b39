-- An argument against a word, byte by byte, and by the library's comparisons.
use Prim.Native.Nat.{ℕ, zero, suc, ◌+◌, ◌-◌, ◌≤◌, ◌<◌}
use mathlib.Core.Path.{◌≡◌, refl, sym, ap, ◌∙◌}
use mathlib.Core.Bool.{Bool, true}
use mathlib.Core.List.{List}
use native.Mathlib.Omega.{arith}
use lib.Dec.{eqb}
use lib.ListN.{length, get_or, take}
use borrow.Author.Tests.{le-leb, leb-true, eq-eqb, eqb-true}
use Rattle.std.specs.Cmp.Lexicographic.{pointwise}
use Rattle.std.proofs.lemmas.Bool.Decides.{Decides-eqb}
use Rattle.std.proofs.lemmas.Slice.Eq.{slice_eq-Decides}
use Rattle.std.proofs.lemmas.Grind.{same_number_lists}
use Rattle.std.proofs.lemmas.List.{length-take, get_or-take}
use Rattle.base.proofs.Choice.{and_left, and_right, same_test}
use Rattle.base.proofs.All.{all_at}
use Rattle.base.specs.All.{every, all}
use Rattle.arguments.specs.Word.{same_at, begins_with, same}

every_true : (f : ℕ → Bool) (n i : ℕ) → ((k : ℕ) → i ≤ k → k < i + n → f k ≡ true) → every f n i ≡ true
unfolding every
every_true f zero i h = refl
every_true f (suc n) i h = rw (every, h i (omega arith) (omega arith)) (every_true f n (suc i) (λ k p q. h k (omega arith) (omega arith)))

module _ (arg word : List ℕ) where
  pub same_at_lem : (i : ℕ) → get_or arg i 0 ≡ get_or word i 0 → same_at arg word i ≡ true
  unfolding same_at
  same_at_lem i e = eq-eqb _ _ e

  each_same : ((k : ℕ) → k < length word → get_or arg k 0 ≡ get_or word k 0) → all (same_at arg word) 0 (length word) ≡ true
  unfolding all
  each_same h =
      let z : length word - 0 ≡ length word = omega arith in
      rw z (every_true (same_at arg word) (length word) 0 (λ k p q. same_at_lem k (h k (omega arith))))

  begins : length word ≤ length arg → ((k : ℕ) → k < length word → get_or arg k 0 ≡ get_or word k 0) → begins_with arg word ≡ true
  unfolding begins_with
  begins h each = rw (le-leb (length word) (length arg) h) (each_same each)

  begins_long : begins_with arg word ≡ true → length word ≤ length arg
  unfolding begins_with
  begins_long e = leb-true _ _ (and_left _ _ e)

  begins_at : begins_with arg word ≡ true → (k : ℕ) → k < length word → get_or arg k 0 ≡ get_or word k 0
  unfolding begins_with same_at
  begins_at e k h = eqb-true _ _ (all_at (same_at arg word) 0 (length word) (and_right _ _ e) k (omega arith) h)

  -- the library's `starts_with`
  pub starts : (r : Bool) → r ≡ pointwise eqb word (take (length word) arg) → r ≡ begins_with arg word
  starts r e =
      let n = length word in
      let d = slice_eq-Decides Decides-eqb word (take n arg) r e in
      same_test r (begins_with arg word)
      (λ t.
      let q : word ≡ take n arg = d.0 t in
      let h : n ≤ length arg = omega (arith, ap length q, length-take n arg) in
      begins h (λ k l. sym (get_or-take n arg k 0 l) ∙ sym (ap (λ (x : List ℕ). get_or x k 0) q)))
      (λ t.
      let h : n ≤ length arg = begins_long t in
      let same_length : n ≡ length (take n arg) = omega (arith, length-take n arg) in
      d.1 (same_number_lists word (take n arg) same_length (λ k l. sym (begins_at t k l) ∙ sym (get_or-take n arg k 0 l))))

  pub starts_fits : (r : Bool) → r ≡ begins_with arg word → r ≡ true → length word ≤ length arg
  starts_fits r e t = begins_long (sym e ∙ t)

  -- the library's `==`
  pub equals : (r : Bool) → r ≡ pointwise eqb arg word → r ≡ same arg word
  unfolding same
  equals r e =
      let d = slice_eq-Decides Decides-eqb arg word r e in
      same_test r (same arg word)
      (λ t.
      let q : arg ≡ word = d.0 t in
      let h : length arg ≡ length word = ap length q in
      rw (eq-eqb (length arg) (length word) h) (begins (omega arith) (λ k l. ap (λ (x : List ℕ). get_or x k 0) q)))
      (λ t.
      let h : length arg ≡ length word = eqb-true _ _ (and_left _ _ t) in
      d.1 (same_number_lists arg word h (λ k l. begins_at (and_right _ _ t) k (omega arith))))
