-- Digits put into a buffer: the last one behind those of the tenth part.
-- Assumes nothing.
use Prim.Native.Nat.{ℕ, ◌+◌, ◌/◌, ◌%◌, ◌^◌, ◌≤◌, ◌<◌}
use mathlib.Core.Path.{◌≡◌, ap, ◌∙◌}
use mathlib.Core.List.{List, [], ◌∷◌}
use native.Mathlib.Omega.{arith}
use lib.ListN.{length, set, length-append}
use Rattle.base.specs.Put.{with_bytes}
use Rattle.numbers.specs.Decimal.{digits}
use Rattle.base.proofs.Put.{put_one, put_then, put_length}
use Rattle.numbers.proofs.Digits.{digits_short, digits_long}
use Rattle.numbers.proofs.Written.{digits_few}

short_length : (n : ℕ) → n < 10 → length (digits n) ≡ 1
short_length n h = rw (digits_short n h)

long_length : (n : ℕ) → 10 ≤ n → length (digits n) ≡ length (digits (n / 10)) + 1
long_length n h = rw (digits_long n h) (omega (arith, length-append (digits (n / 10)) ((48 + n % 10) ∷ [])))

module _ (b : List ℕ) (at n : ℕ) (k : at + length (digits n) ≤ length b) where
  pub short_room : n < 10 → at < length b
  short_room h = omega (arith, short_length n h)

  pub short_put : n < 10 → set b at (48 + n) ≡ with_bytes b at (digits n)
  short_put h = rw (digits_short n h) (put_one b at (48 + n) (omega (arith, short_length n h)))

  module _ (h : 10 ≤ n) where
    pub long_asks : at + length (digits (n / 10)) ≤ length b
    long_asks = omega (arith, long_length n h)

    module _ {e : ℕ} (q : e ≡ at + length (digits (n / 10))) where
      pub long_room : {x : List ℕ} → x ≡ with_bytes b at (digits (n / 10)) → e < length x
      long_room r = omega (arith, long_length n h, ap length r ∙ put_length b at (digits (n / 10)) long_asks)

      pub long_step : e < length b
      long_step = omega (arith, long_length n h)

      pub long_put : {x : List ℕ} → x ≡ with_bytes b at (digits (n / 10)) → set x e (48 + n % 10) ≡ with_bytes b at (digits n)
      long_put {x} r =
          let d = digits (n / 10) in
          let one : set x e (48 + n % 10) ≡ with_bytes x (at + length d) ((48 + n % 10) ∷ []) =
          put_one x e (48 + n % 10) (omega (arith, long_room r)) ∙ ap (λ (i : ℕ). with_bytes x i ((48 + n % 10) ∷ [])) q in
          rw (digits_long n h) (put_then b at d ((48 + n % 10) ∷ []) long_asks r one)

pub short_end : (at n : ℕ) → n < 10 → at + 1 ≡ at + length (digits n)
short_end at n h = omega (arith, short_length n h)

pub long_end : (at n : ℕ) {e : ℕ} → 10 ≤ n → e ≡ at + length (digits (n / 10)) → e + 1 ≡ at + length (digits n)
long_end at n h q = omega (arith, long_length n h)

-- ---- digits counted
pub size_short : (n : ℕ) → n < 10 → (1 ≡ length (digits n)) × (1 ≤ 10)
size_short n h = (rw (short_length n h), omega arith)

pub size_long : (n : ℕ) {k : ℕ} → n < 2 ^ 32 → 10 ≤ n → k ≡ length (digits (n / 10)) → (k + 1 ≡ length (digits n)) × (k + 1 ≤ 10)
size_long n h g q = (omega (arith, long_length n g), omega (arith, long_length n g, digits_few n (omega arith)))
