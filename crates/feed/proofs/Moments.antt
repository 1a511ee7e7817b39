-- A time that was read is a moment of 0:00:00 to 99:59:59; a type and a span that were read fit each other.
-- Assumes nothing.
use Prim.Native.Nat.{ℕ, ◌≤◌}
use mathlib.Core.Path.{◌≡◌, sym}
use mathlib.Core.Bool.{true, cond, ◌&&◌}
use Rattle.std.specs.Prelude.{None, Some}
use mathlib.Core.List.{List, [], ◌∷◌}
use native.Mathlib.Omega.{arith}
use lib.Dec.{ltb, leb, eqb}
use lib.ListN.{length, get_or}
use borrow.Author.Tests.{leb-true, le-leb, eq-eqb}
use Rattle.base.proofs.Choice.{split}
use Rattle.numbers.specs.Decimal.{decimal}
use Rattle.numbers.specs.Clock.{MIDNIGHT, up_to, eight_bytes, clock}
use Rattle.feed.specs.Transfers.{UNSTATED, kind_of, span_of}
use Rattle.feed.specs.Orderly.{is_moment, fits_span}
use Rattle.feed.proofs.IfThere.{none_some, some_is, there, tested}

up_to_most : (most x y v : ℕ) → up_to most x y ≡ Some v → v ≤ most
unfolding up_to
up_to_most most x y v e =
    let z = there (decimal (x ∷ y ∷ [])) (λ v. cond (leb v most) (Some v) None) e in
    let t = tested (leb z.0 most) (Some z.0) z.2 in
    let q = some_is t.1 in
    omega (arith, leb-true z.0 most t.0)

eight_moment : (t : List ℕ) {m : ℕ} → eight_bytes t ≡ Some m → (MIDNIGHT ≤ m) × (m ≤ 446_399)
unfolding eight_bytes
eight_moment t {m} e =
    let c = eqb (get_or t 2 0) 58 && eqb (get_or t 5 0) 58 in
    let a = (tested c _ e).1 in
    let h = there (up_to 99 (get_or t 0 0) (get_or t 1 0)) _ a in
    let n = there (up_to 59 (get_or t 3 0) (get_or t 4 0)) _ h.2 in
    let s = there (up_to 59 (get_or t 6 0) (get_or t 7 0)) _ n.2 in
    let q = some_is s.2 in
    let x = up_to_most 99 (get_or t 0 0) (get_or t 1 0) h.0 h.1 in
    let y = up_to_most 59 (get_or t 3 0) (get_or t 4 0) n.0 n.1 in
    let z = up_to_most 59 (get_or t 6 0) (get_or t 7 0) s.0 s.1 in
    (omega arith, omega arith)

pub clock_moment : (t : List ℕ) {m : ℕ} → clock t ≡ Some m → is_moment m ≡ true
unfolding clock is_moment
clock_moment t {m} e =
    let b : (MIDNIGHT ≤ m) × (m ≤ 446_399) =
    split (eqb (length t) 8)
    (λ v. eight_moment t (rw v at e))
    (λ v. split (eqb (length t) 7) (λ w. eight_moment (48 ∷ t) (rw (v, w) at e)) (λ w. none_some (rw (v, w) at e))) in
    rw (le-leb MIDNIGHT m b.0, le-leb m 446_399 b.1)

kind_most : (t : List ℕ) {k : ℕ} → kind_of t ≡ Some k → k ≤ 5
unfolding kind_of
kind_most [] {k} e = let q = some_is e in omega arith
kind_most (y ∷ t) {k} e =
    let z = there (decimal (y ∷ t)) (λ k. cond (leb k 5) (Some k) None) e in
    let w = tested (leb z.0 5) (Some z.0) z.2 in
    let q = some_is w.1 in
    omega (arith, leb-true z.0 5 w.0)

pub span_right : (s t : List ℕ) (k x : ℕ) → kind_of s ≡ Some k → span_of k t ≡ Some x → fits_span k x ≡ true
unfolding span_of fits_span
span_right s t k x d e =
    split (eqb k 2)
    (λ v.
    let z = there (decimal t) (λ x. cond (ltb x UNSTATED) (Some x) None) (rw v at e) in
    let w = tested (ltb z.0 UNSTATED) (Some z.0) z.2 in
    let q = some_is w.1 in
    rw (v, ← q) w.0)
    (λ v.
    let f : Some UNSTATED ≡ Some x = rw v at e in
    let q : x ≡ UNSTATED = sym (some_is f) in
    rw (v, le-leb k 5 (kind_most s d), eq-eqb x UNSTATED q))
