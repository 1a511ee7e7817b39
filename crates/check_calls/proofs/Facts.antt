-- What the tests of lists say of their words and rows, both ways.
use Prim.Native.Nat.{ℕ, ◌+◌, ◌≤◌, ◌<◌}
use mathlib.Core.Path.{◌≡◌, refl, sym}
use mathlib.Core.Bool.{Bool, true, false, cond, ◌||◌, or-true, true≢false}
use mathlib.Core.Logic.{◌⊎◌, inl, inr, ◌≢◌}
use mathlib.Core.List.{List}
use native.Mathlib.Omega.{arith}
use lib.Dec.{eqb}
use borrow.Author.Tests.{lt-ltb, ltb-true, eqb-true, eq-eqb}
use Rattle.base.proofs.Choice.{split}
use Rattle.base.specs.All.{all}
use Rattle.base.proofs.All.{all_at}
use Rattle.repository.specs.Sections.{size, sec}
use Rattle.repository.specs.Listed.{among, unseen, distinct, indexed, in_range, under}
use Rattle.repository.specs.Accepted.{Under}
use Rattle.repository.proofs.All.{all_so}
use Rattle.check_calls.proofs.Ranges.{some_shown, some_so}

-- ---- from 0 on
pub each_shown : (f : ℕ → Bool) (n : ℕ) → all f 0 n ≡ true → (i : ℕ) → i < n → f i ≡ true
each_shown f n e i h = all_at f 0 n e i (omega arith) h

pub each_so : (f : ℕ → Bool) (n : ℕ) → ((i : ℕ) → i < n → f i ≡ true) → all f 0 n ≡ true
each_so f n h = all_so f 0 n (λ i from to. h i to)

-- ---- the rows of each entry
module _ (w : List ℕ) (k n : ℕ) (f : ℕ → ℕ → Bool) where
  pub under_shown : all (under w k f) 0 n ≡ true → (i j : ℕ) → i < n → Under w k i j → f i j ≡ true
  unfolding under
  under_shown e i j h u =
      all_at (f i) (sec w k i) (sec w k (i + 1)) (each_shown (under w k f) n e i h) j u.from u.to

  pub under_so : ((i j : ℕ) → i < n → Under w k i j → f i j ≡ true) → all (under w k f) 0 n ≡ true
  unfolding under
  under_so h =
      each_so (under w k f) n
      (λ i g. all_so (f i) (sec w k i) (sec w k (i + 1)) (λ j from to. h i j g (record { from = from; to = to })))

-- ---- words that differ
module _ (w : List ℕ) (k a b : ℕ) where
  pub distinct_shown : distinct w k a b ≡ true → (i j : ℕ) → a ≤ i → i < j → j < b → sec w k i ≢ sec w k j
  unfolding distinct unseen among
  distinct_shown e i j from h to same =
      let new = all_at (unseen w k a) a b e j (omega arith) to in
      let old =
      some_so (λ x. eqb (sec w k x) (sec w k j)) a j
      (record { at = i; from = from; to = h; passes = eq-eqb (sec w k i) (sec w k j) same }) in
      true≢false (sym (rw old at new))

  pub distinct_so : ((i j : ℕ) → a ≤ i → i < j → j < b → sec w k i ≢ sec w k j) → distinct w k a b ≡ true
  unfolding distinct unseen among
  distinct_so h = all_so (unseen w k a) a b new
    where
      new : (j : ℕ) → a ≤ j → j < b → cond (among w k a j (sec w k j)) false true ≡ true
      new j from to =
          split (among w k a j (sec w k j))
          (λ e.
          let old = some_shown (λ x. eqb (sec w k x) (sec w k j)) a j e in
          absurd (h old.at j old.from old.to to (eqb-true (sec w k old.at) (sec w k j) old.passes)))
          (λ e. rw e)

-- ---- indices
pub index_shown : (w : List ℕ) (k n : ℕ) → in_range w k n ≡ true → (i : ℕ) → i < size w k → sec w k i < n
unfolding in_range indexed
index_shown w k n e i h = ltb-true (sec w k i) n (each_shown (indexed w k n) (size w k) e i h)

pub index_so : (w : List ℕ) (k n : ℕ) → ((i : ℕ) → i < size w k → sec w k i < n) → in_range w k n ≡ true
unfolding in_range indexed
index_so w k n h = each_so (indexed w k n) (size w k) (λ i g. lt-ltb (sec w k i) n (h i g))

-- ---- one or the other
pub or_shown : (a b : Bool) → a || b ≡ true → (a ≡ true) ⊎ (b ≡ true)
or_shown true b e = inl refl
or_shown false b e = inr e

pub or_so : (a b : Bool) → (a ≡ true) ⊎ (b ≡ true) → a || b ≡ true
or_so a b (inl e) = rw e
or_so a b (inr e) = rw (e, or-true)
