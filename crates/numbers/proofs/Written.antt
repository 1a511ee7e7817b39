-- Digits that are written are read as the number: the round trip of a number.
-- Assumes nothing.
use Prim.Native.Nat.{ℕ, zero, suc, ◌+◌, ◌-◌, ◌*◌, ◌/◌, ◌%◌, ◌^◌, ◌≤◌, ◌<◌}
use mathlib.Core.Path.{◌≡◌, refl, sym, ap, ◌∙◌}
use Rattle.std.specs.Prelude.{Option, None, Some}
use mathlib.Core.List.{List, [], ◌∷◌, ◌++◌}
use native.Mathlib.Omega.{arith}
use native.Mathlib.Nat.{pow-suc}
use lib.ListN.{length, length-append}
use lib.Dec.{ltb, leb}
use borrow.Author.Tests.{le-leb, ltb-true, ltb-false}
use Rattle.base.proofs.Choice.{split}
use Rattle.base.specs.Each.{Each, nil, cons}
use Rattle.base.proofs.Each.{each_append}
use Rattle.numbers.specs.Decimal.{decimal_from, decimal, digits}
use Rattle.numbers.proofs.Digits.{digits_short, digits_long, by_tenths}

one_digit : (v x : ℕ) (b : List ℕ) → 48 ≤ x → x ≤ 57 → v * 10 + (x - 48) ≤ 4_294_967_295
    → decimal_from v (x ∷ b) ≡ decimal_from (v * 10 + (x - 48)) b
unfolding decimal_from
one_digit v x b l m n = rw (le-leb 48 x l, le-leb x 57 m, le-leb (v * 10 + (x - 48)) 4_294_967_295 n)

-- digits before others
behind : (xs ys : List ℕ) (v w : ℕ) → decimal_from v xs ≡ Some w → decimal_from v (xs ++ ys) ≡ decimal_from w ys
unfolding decimal_from
behind [] ys v w e = let q : v ≡ w = cc in ap (λ (u : ℕ). decimal_from u ys) q
behind (x ∷ xs) ys v w e =
    let u = v * 10 + (x - 48) in
    split (leb 48 x)
    (λ a.
    split (leb x 57)
    (λ c.
    split (leb (v * 10 + (x - 48)) 4_294_967_295)
    (λ d. rw (a, c, d) (behind xs ys (v * 10 + (x - 48)) w (rw (a, c, d) at e)))
    (λ d. refused (rw (a, c, d) at e)))
    (λ c. refused (rw (a, c) at e)))
    (λ a. refused (rw a at e))
  where
    refused : {C : Type 0} → ◌≡◌ {A = Option ℕ} None (Some w) → C
    refused z = let y : ◌≡◌ {A = ℕ} 0 1 = cc in absurd (omega arith)

-- "reading that gives the same": of one number
from_digits : (n : ℕ) → n ≤ 4_294_967_295 → decimal_from 0 (digits n) ≡ Some n
unfolding decimal_from
from_digits n = by_tenths (λ m. m ≤ 4_294_967_295 → decimal_from 0 (digits m) ≡ Some m) few many n
  where
    few : (m : ℕ) → m < 10 → m ≤ 4_294_967_295 → decimal_from 0 (digits m) ≡ Some m
    few m l k =
        let q : 0 * 10 + (48 + m - 48) ≡ m = omega arith in
        rw (digits_short m l) (one_digit 0 (48 + m) [] (omega arith) (omega arith) (omega arith) ∙ ap Some q)

    many : (m : ℕ) → 10 ≤ m → (m / 10 ≤ 4_294_967_295 → decimal_from 0 (digits (m / 10)) ≡ Some (m / 10)) → m ≤ 4_294_967_295
        → decimal_from 0 (digits m) ≡ Some m
    many m l ih k =
        let q : m / 10 * 10 + (48 + m % 10 - 48) ≡ m = omega arith in
        rw (digits_long m l)
        (behind (digits (m / 10)) ((48 + m % 10) ∷ []) 0 (m / 10) (ih (omega arith))
        ∙ one_digit (m / 10) (48 + m % 10) [] (omega arith) (omega arith) (omega arith)
        ∙ ap Some q)

-- every byte is a digit or, in a moment, a colon, so none ends a field or a line; and there is one, and there are no more than ten
abbrev pub Shown : ℕ → Type 0
Shown x = (48 ≤ x) × (x ≤ 58)

pub digits_shown : (n : ℕ) → Each Shown (digits n)
digits_shown n = by_tenths (λ m. Each Shown (digits m)) few many n
  where
    few : (m : ℕ) → m < 10 → Each Shown (digits m)
    few m l = rw (digits_short m l) (cons {x = 48 + m} (omega arith, omega arith) nil)

    many : (m : ℕ) → 10 ≤ m → Each Shown (digits (m / 10)) → Each Shown (digits m)
    many m l ih = rw (digits_long m l) (each_append ih (cons {x = 48 + m % 10} (omega arith, omega arith) nil))

pub digits_some : (n : ℕ) → 0 < length (digits n)
digits_some n = by_tenths (λ m. 0 < length (digits m)) few many n
  where
    few : (m : ℕ) → m < 10 → 0 < length (digits m)
    few m l = rw (digits_short m l) (omega arith)

    many : (m : ℕ) → 10 ≤ m → 0 < length (digits (m / 10)) → 0 < length (digits m)
    many m l ih = rw (digits_long m l) (omega (arith, length-append (digits (m / 10)) ((48 + m % 10) ∷ [])))

decimal_from_lem : (b : List ℕ) → 0 < length b → decimal b ≡ decimal_from 0 b
unfolding decimal
decimal_from_lem [] h = absurd (omega arith)
decimal_from_lem (x ∷ b) h = refl

pub read_digits : (n : ℕ) → n ≤ 4_294_967_295 → decimal (digits n) ≡ Some n
read_digits n h = decimal_from_lem (digits n) (digits_some n) ∙ from_digits n h

pub digits_same : (m n : ℕ) → m ≤ 4_294_967_295 → n ≤ 4_294_967_295 → digits m ≡ digits n → m ≡ n
digits_same m n h k e = let q : Some m ≡ Some n = sym (read_digits m h) ∙ ap decimal e ∙ read_digits n k in cc

-- ten times as much, one digit more
few_digits : (k n : ℕ) → n < 10 ^ suc k → length (digits n) ≤ suc k
few_digits zero n h = rw (digits_short n (omega arith)) (omega arith)
few_digits (suc k) n h =
    split (ltb n 10)
    (λ t. rw (digits_short n (ltb-true n 10 t)) (omega arith))
    (λ t.
    rw (digits_long n (ltb-false n 10 t))
    (omega (arith, length-append (digits (n / 10)) ((48 + n % 10) ∷ []), few_digits k (n / 10) (omega (arith, pow-suc 10 (suc k))))))

pub digits_few : (n : ℕ) → n ≤ 4_294_967_295 → length (digits n) ≤ 10
digits_few n h = few_digits 9 n (omega arith)
