-- A number digit by digit.
use Prim.Native.Nat.{ℕ, zero, suc, ◌+◌, ◌*◌, ◌-◌, ◌≤◌, ◌<◌}
use mathlib.Core.Path.{◌≡◌, sym, ap, ◌∙◌}
use mathlib.Core.Bool.{Bool}
use mathlib.Core.List.{List}
use native.Mathlib.Omega.{arith}
use native.Mathlib.Nat.{zero-add, suc-add}
use lib.ListN.{get_or}
use borrow.Author.Tests.{lt-ltb, le-ltb}
use Rattle.std.specs.Prelude.{Ok, Err}
use Rattle.base.specs.All.{all}
use Rattle.arguments.specs.Digits.{is_digit, digit_at, tens, fitting}
use Rattle.arguments.specs.declared.bytes.NoNumber.TheVariants.{TooLarge}

-- what a check came to, the other way round
pub all_is : (f : ℕ → Bool) (a b : ℕ) {v : Bool} → all f a b ≡ v → v ≡ all f a b
all_is f a b e = sym e

-- the test of a byte is the test at its place
pub at_digit : (arg : List ℕ) (i : ℕ) {r v : Bool} → r ≡ is_digit (get_or arg i 0) → r ≡ v → digit_at arg i ≡ v
at_digit arg i e f = sym e ∙ f

-- more digits make no smaller number
grows : (arg : List ℕ) (from k n : ℕ) → tens arg from k ≤ tens arg from (n + k)
unfolding tens
grows arg from k zero = rw zero-add (omega arith)
grows arg from k (suc n) = rw suc-add (omega (arith, grows arg from k n))

pub fits : {n : ℕ} → n < 4_294_967_296 → fitting n ≡ Ok n
fits {n} h = rw (lt-ltb n 4_294_967_296 h)

too_large : (n : ℕ) → 4_294_967_296 ≤ n → fitting n ≡ Err TooLarge
too_large n h = rw (le-ltb n 4_294_967_296 h)

-- a number that is read up to place i
pub record Read (arg : List ℕ) (from to value i : ℕ) : Type 0 where
  pub low : from ≤ i
  pub high : i ≤ to
  pub value_is : value ≡ tens arg from (i - from)
  pub small : value ≤ 4_294_967_295

module _ (arg : List ℕ) (from to : ℕ) where
  pub read_start : from ≤ to → Read arg from to 0 from
  unfolding tens
  read_start h = let e : from - from ≡ 0 = omega arith in record { low = omega arith; high = h; value_is = sym (ap (tens arg from) e); small = omega arith }

  next_is : (value i : ℕ) {next : ℕ} → Read arg from to value i → next ≡ value * 10 + (get_or arg i 0 - 48) → next ≡ tens arg from (i + 1 - from)
  unfolding tens
  next_is value i r e =
      let at : from + (i - from) ≡ i = omega arith in
      let n : i + 1 - from ≡ suc (i - from) = omega arith in
      let same : get_or arg (from + (i - from)) 0 ≡ get_or arg i 0 = ap (λ (j : ℕ). get_or arg j 0) at in
      let v = r.value_is in
      rw n (omega arith)

  pub read_on : (value i : ℕ) {next : ℕ} → Read arg from to value i → i < to → next ≡ value * 10 + (get_or arg i 0 - 48) → next ≤ 4_294_967_295
      → Read arg from to next (i + 1)
  read_on value i r h e g = record { low = omega arith; high = omega arith; value_is = next_is value i r e; small = g }

  pub read_over : (value i : ℕ) {next : ℕ} → Read arg from to value i → i < to → next ≡ value * 10 + (get_or arg i 0 - 48) → 4_294_967_295 < next
      → Err TooLarge ≡ fitting (tens arg from (to - from))
  read_over value i r h e g =
      let m = to - (i + 1) in
      let k : m + (i + 1 - from) ≡ to - from = omega arith in
      let big : tens arg from (i + 1 - from) ≤ tens arg from (to - from) = rw k at (grows arg from (i + 1 - from) m) in
      sym (too_large (tens arg from (to - from)) (omega (arith, next_is value i r e)))

  pub read_end : (value i : ℕ) → Read arg from to value i → to ≤ i → Ok value ≡ fitting (tens arg from (to - from))
  read_end value i r h =
      let e : i ≡ to = omega arith in
      let v : value ≡ tens arg from (to - from) = rw e at r.value_is in
      sym (fits (omega arith)) ∙ ap fitting v
