-- What a test of a range of numbers says of each of them, both ways.
use Prim.Native.Nat.{ℕ, zero, suc, ◌+◌, ◌-◌, ◌≤◌, ◌<◌}
use mathlib.Core.Path.{◌≡◌, sym, ap}
use mathlib.Core.Bool.{Bool, true, false, cond, not, ◌||◌, or-true, true≢false}
use native.Mathlib.Omega.{arith}
use lib.Dec.{eqb}
use borrow.Author.Tests.{eqb-true, eqb-false}
use Rattle.base.proofs.Choice.{split, same_test}
use Rattle.base.specs.All.{all, every}
use Rattle.base.proofs.All.{all_at}
use Rattle.repository.specs.Listed.{fails, some}

-- a number of the range that passes
pub record Some (f : ℕ → Bool) (a b : ℕ) : Type 0 where
  pub at : ℕ
  pub from : a ≤ at
  pub to : at < b
  pub passes : f at ≡ true

-- ---- all
-- where not all pass, some fails
every_fault : (f : ℕ → Bool) (n i : ℕ) → every f n i ≡ false → Some (λ k. not (f k)) i (i + n)
unfolding every
every_fault f zero i e = absurd (true≢false e)
every_fault f (suc n) i e =
    split (f i)
    (λ t.
    let rest = every_fault f n (suc i) (rw (t, every) at e) in
    record { at = rest.at; from = omega (arith, rest.from); to = omega (arith, rest.to); passes = rest.passes })
    (λ t. record { at = i; from = omega arith; to = omega arith; passes = ap not t })

-- ---- some
some_not : (f : ℕ → Bool) (k : ℕ) → not (fails f k) ≡ true → f k ≡ true
unfolding fails
some_not f k e = split (f k) (λ t. t) (λ t. absurd (true≢false (sym (rw t at e))))

pub some_shown : (f : ℕ → Bool) (a b : ℕ) → some f a b ≡ true → Some f a b
unfolding some all
some_shown f a b e =
    split (all (fails f) a b)
    (λ t. absurd (true≢false (sym (rw t at e))))
    (λ t.
    let found = every_fault (fails f) (b - a) a t in
    record {
      at = found.at;
      from = found.from;
      to = omega (arith, found.from, found.to);
      passes = some_not f found.at found.passes;
    })

pub some_so : (f : ℕ → Bool) (a b : ℕ) → Some f a b → some f a b ≡ true
unfolding some fails
some_so f a b s =
    split (all (fails f) a b)
    (λ t.
    let no : cond (f s.at) false true ≡ true = all_at (fails f) a b t s.at s.from s.to in
    absurd (true≢false (sym (rw s.passes at no))))
    (λ t. rw t)

pub some_none : (f : ℕ → Bool) (a b : ℕ) → b ≤ a → some f a b ≡ false
unfolding some all every
some_none f a b h = let c : b - a ≡ 0 = omega arith in rw c

-- one number more
pub some_more : (f : ℕ → Bool) (a i : ℕ) → a ≤ i → some f a (i + 1) ≡ some f a i || f i
some_more f a i h = same_test _ _ there back
  where
    there : some f a (i + 1) ≡ true → some f a i || f i ≡ true
    there e =
        let s = some_shown f a (i + 1) e in
        split (eqb s.at i)
        (λ t.
        let last : s.at ≡ i = eqb-true s.at i t in
        let passes : f i ≡ true = rw last at s.passes in
        rw (passes, or-true))
        (λ t.
        let other = eqb-false s.at i t in
        let to = s.to in
        rw (some_so f a i (record { at = s.at; from = s.from; to = omega arith; passes = s.passes })))

    back : some f a i || f i ≡ true → some f a (i + 1) ≡ true
    back e =
        split (some f a i)
        (λ t.
        let s = some_shown f a i t in
        some_so f a (i + 1) (record { at = s.at; from = s.from; to = omega (arith, s.to); passes = s.passes }))
        (λ t. some_so f a (i + 1) (record { at = i; from = h; to = omega arith; passes = rw t at e }))
