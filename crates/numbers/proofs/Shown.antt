-- A moment as HH:MM:SS: put into a buffer, read back, and which bytes it has.
-- Assumes nothing.
use Prim.Native.Nat.{ℕ, ◌+◌, ◌-◌, ◌*◌, ◌/◌, ◌%◌, ◌≤◌}
use mathlib.Core.Path.{◌≡◌, refl, sym, ap, ◌∙◌}
use Rattle.std.specs.Prelude.{Some}
use mathlib.Core.List.{List, [], ◌∷◌, ◌++◌, append-nil}
use native.Mathlib.Omega.{arith}
use lib.ListN.{length, set, length-set}
use Rattle.base.specs.Each.{Each, nil, cons}
use Rattle.base.specs.Put.{with_bytes}
use Rattle.base.proofs.Put.{put_then, put_one, put_first, put_length}
use Rattle.csv_text.specs.There.{if_there}
use Rattle.numbers.specs.Clock.{up_to, eight_bytes, clock, two_digits, clock_text}
use Rattle.numbers.proofs.Reading.{digit_is}
use Rattle.numbers.proofs.Clocks.{two_read}
use Rattle.numbers.proofs.Written.{Shown}

-- ---- put into a buffer
pub two_put : (b : List ℕ) (at n : ℕ) → at + 2 ≤ length b → set (set b at (48 + n / 10)) (at + 1) (48 + n % 10) ≡ with_bytes b at (two_digits n)
unfolding two_digits
two_put b at n h =
    let x = 48 + n / 10 in
    put_then b at (x ∷ []) ((48 + n % 10) ∷ []) (omega arith) (put_one b at x (omega arith))
    (put_one (set b at x) (at + 1) (48 + n % 10) (omega (arith, length-set b at x)))

pub behind_put : (b : List ℕ) (at n : ℕ) {x : List ℕ} → at + 3 ≤ length b → x ≡ with_bytes b (at + 1) (two_digits n)
    → set x at 58 ≡ with_bytes b at (58 ∷ two_digits n)
unfolding two_digits
behind_put b at n {x} h e =
    let l : length x ≡ length b = ap length e ∙ put_length b (at + 1) (two_digits n) (omega arith) in
    put_one x at 58 (omega arith) ∙ rw e (put_first b at (58 ∷ []) (omega arith) (two_digits n))

pub clock_put : (b : List ℕ) (at m : ℕ) {t : ℕ} {x y z : List ℕ} → at + 8 ≤ length b → t ≡ m - 86_400
    → x ≡ with_bytes b at (two_digits (t / 3_600)) → y ≡ with_bytes x (at + 2) (58 ∷ two_digits (t / 60 % 60))
    → z ≡ with_bytes y (at + 5) (58 ∷ two_digits (t % 60)) → z ≡ with_bytes b at (clock_text m)
unfolding two_digits clock_text
clock_put b at m {t} {x} {y} h e p q r =
    let hs = two_digits (t / 3_600) in
    let ms : List ℕ = 58 ∷ two_digits (t / 60 % 60) in
    let two : y ≡ with_bytes b at (hs ++ ms) = put_then b at hs ms (omega arith) p q in
    rw (← e) (put_then b at (hs ++ ms) (58 ∷ two_digits (t % 60)) (omega arith) two r)

-- ---- read back
two_back : (most n : ℕ) → n ≤ most → most ≤ 99 → up_to most (48 + n / 10) (48 + n % 10) ≡ Some n
two_back most n h k =
    let x : n / 10 ≤ 9 = omega arith in
    let a = digit_is (48 + n / 10) {d = n / 10} (omega arith) (omega arith) (omega arith) in
    let b = digit_is (48 + n % 10) {d = n % 10} (omega arith) (omega arith) (omega arith) in
    sym (two_read most (48 + n / 10) (48 + n % 10) a x b (omega arith) (omega arith) h)

pub clock_reads : (m : ℕ) → 86400 ≤ m → m ≤ 446399 → clock (clock_text m) ≡ Some m
unfolding clock clock_text two_digits eight_bytes if_there
clock_reads m h k =
    let x = m - 86_400 in
    let q : x / 3_600 * 3_600 + x / 60 % 60 * 60 + x % 60 + 86_400 ≡ m = omega arith in
    rw (
      two_back 99 (x / 3_600) (omega arith) (omega arith),
      two_back 59 (x / 60 % 60) (omega arith) (omega arith),
      two_back 59 (x % 60) (omega arith) (omega arith),
    )
    (ap Some q)

-- ---- its bytes
pub clock_long : (m : ℕ) → length (clock_text m) ≡ 8
unfolding clock_text two_digits
clock_long m = refl

two_shown : (n : ℕ) (b : List ℕ) → n ≤ 99 → Each Shown b → Each Shown (two_digits n ++ b)
unfolding two_digits
two_shown n b h e = cons {x = 48 + n / 10} (omega arith, omega arith) (cons {x = 48 + n % 10} (omega arith, omega arith) e)

pub clock_shown : (m : ℕ) → m ≤ 446399 → Each Shown (clock_text m)
unfolding clock_text
clock_shown m k =
    let x = m - 86_400 in
    let colon : Shown 58 = (omega arith, omega arith) in
    two_shown (x / 3_600) _ (omega arith)
    (cons colon (two_shown (x / 60 % 60) _ (omega arith) (cons colon (rw (← append-nil (two_digits (x % 60))) (two_shown (x % 60) [] (omega arith) nil)))))
