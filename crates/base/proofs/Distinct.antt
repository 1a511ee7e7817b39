-- Lists of numbers without a repetition: one whose numbers are all below n has at most n of them.
use Prim.Native.Nat.{ℕ, zero, suc, ◌≤◌, ◌<◌}
use mathlib.Core.Path.{subst}
use mathlib.Core.Bool.{cond}
use mathlib.Core.Logic.{◌≢◌}
use mathlib.Core.List.{List, [], ◌∷◌}
use native.Mathlib.Omega.{arith}
use lib.Dec.{eqb}
use lib.ListN.{length}
use borrow.Author.Tests.{eqb-true, eqb-false}
use Rattle.base.specs.Each.{Each, nil, cons}
use Rattle.base.specs.Distinct.{Distinct, empty, front}
use Rattle.base.proofs.Choice.{cond_elim}
use Rattle.base.proofs.Each.{each_map, each_both}

-- the list with the number x taken out at its first place
without : ℕ → List ℕ → List ℕ
without x [] = []
without x (y ∷ ys) = cond (eqb y x) ys (y ∷ without x ys)

without_length : (x : ℕ) (xs : List ℕ) → length xs ≤ suc (length (without x xs))
unfolding without
without_length x [] = omega arith
without_length x (y ∷ ys) =
    let rest = without_length x ys in
    cond_elim (λ (l : List ℕ). suc (length ys) ≤ suc (length l)) (eqb y x) ys (y ∷ without x ys) (λ e. omega arith) (λ e. omega arith)

without_each : {P : ℕ → Type 0} (x : ℕ) {xs : List ℕ} → Each P xs → Each P (without x xs)
unfolding without
without_each x nil = nil
without_each {P} x (cons {x = y} {xs = ys} p h) = cond_elim (Each P) (eqb y x) _ _ (λ e. h) (λ e. cons p (without_each x h))

without_distinct : (x : ℕ) {xs : List ℕ} → Distinct xs → Distinct (without x xs)
unfolding without
without_distinct x empty = empty
without_distinct x (front {x = y} {xs = ys} a d) =
    cond_elim Distinct (eqb y x) _ _ (λ e. d) (λ e. front (without_each x a) (without_distinct x d))

-- no x is left
without_others : (x : ℕ) {xs : List ℕ} → Distinct xs → Each (λ y. y ≢ x) (without x xs)
unfolding without
without_others x empty = nil
without_others x (front {x = y} {xs = ys} a d) =
    cond_elim (Each (λ (v : ℕ). v ≢ x)) (eqb y x) _ _
    (λ e. subst (λ (v : ℕ). Each (λ u. u ≢ v) ys) (eqb-true y x e) a) (λ e. cons (eqb-false y x e) (without_others x d))

pub distinct_short : (n : ℕ) {xs : List ℕ} → Each (λ x. x < n) xs → Distinct xs → length xs ≤ n
distinct_short zero nil d = omega arith
distinct_short zero (cons p h) d = absurd (omega arith)
distinct_short (suc n) {xs} h d =
    let small : Each (λ x. x < n) (without n xs) = each_map below (each_both (without_others n d) (without_each n h)) in
    omega (arith, without_length n xs, distinct_short n small (without_distinct n d))
  where
    below : (y : ℕ) → (y ≢ n) × (y < suc n) → y < n
    below y z =
        let ne = z.0 in
        let lt = z.1 in
        omega arith
