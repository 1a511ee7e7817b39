-- A loop over marked stops or routes: the next one, and what is left behind it.
-- Assumes nothing.
use mathlib.Core.Path.{◌≡◌, refl, ap, ◌∙◌}
use mathlib.Core.Bool.{Bool, true, false}
use mathlib.Core.List.{List, [], ◌∷◌}
use Prim.Native.Nat.{ℕ, suc, ◌+◌, ◌-◌, ◌≤◌, ◌<◌}
use native.Mathlib.Numerals.{add-one}
use native.Mathlib.Omega.{arith}
use lib.ListN.{length, drop, length-drop}
use lib.Seq.{drop-drop}
use Rattle.marks.specs.Marks.{first_of}
use Rattle.std.specs.Prelude.{Option, None, Some}
use Rattle.std.specs.Option.{is_some}
use Rattle.model.specs.Lists.{set_in, any_of}
use Rattle.allocator.specs.Marked.{after}

-- s is the first set place of the flags, of which the first has place i
record First (i : ℕ) (fs : List Bool) (s : ℕ) : Type 0 where
  pub from : i ≤ s
  pub below : s < i + length fs
  pub goes_on : set_in i fs ≡ s ∷ set_in (suc s) (drop (suc s - i) fs)

first : (i : ℕ) (fs : List Bool) (s : ℕ) → Some s ≡ first_of (set_in i fs) → First i fs s
unfolding set_in
first i [] s e = let z : ◌≡◌ {A = ℕ} 0 1 = cc in absurd (omega arith)
first i (true ∷ fs) s e =
    let here : s ≡ i = cc in
    let one : suc i - i ≡ 1 = omega arith in
    record { from = omega arith; below = omega arith; goes_on = rw (here, one) }
first i (false ∷ fs) s e =
    let f = first (suc i) fs s e in
    let one : suc s - i ≡ suc (suc s - suc i) = omega (arith, f.from) in
    record { from = omega (arith, f.from); below = omega (arith, f.below); goes_on = f.goes_on ∙ rw one }

-- ---- the laws of the loop
pub after_start : (fs : List Bool) → after 0 fs ≡ set_in 0 fs
unfolding after
after_start fs = refl

module _ (i : ℕ) (fs : List Bool) {s : ℕ} (e : Some s ≡ first_of (after i fs)) where
  found : First i (drop i fs) s
  unfolding after
  found = first i (drop i fs) s e

  pub after_from : i ≤ s
  after_from = found.from

  pub after_below : s < length fs
  after_below = omega (arith, found.from, found.below, length-drop i fs)

  pub after_next : after i fs ≡ s ∷ after (s + 1) fs
  unfolding after
  after_next =
      let f = found in
      let there : i + (suc s - i) ≡ suc s = omega (arith, f.from) in
      f.goes_on ∙ rw (drop-drop (suc s - i) i fs, there, add-one)

pub after_none : (i : ℕ) (fs : List Bool) → None ≡ first_of (after i fs) → after i fs ≡ []
after_none i fs = go (after i fs)
  where
    go : (l : List ℕ) → None ≡ first_of l → l ≡ []
    go [] e = refl
    go (s ∷ l) e = let z : ◌≡◌ {A = ℕ} 0 1 = cc in absurd (omega arith)

-- ---- whether there is one
some_set : (i : ℕ) (fs : List Bool) → is_some (first_of (set_in i fs)) ≡ any_of fs
unfolding set_in any_of
some_set i [] = refl
some_set i (true ∷ fs) = refl
some_set i (false ∷ fs) = some_set (suc i) fs

-- the answer x of a look from the start
pub any_some : (fs : List Bool) {x : Option ℕ} → x ≡ first_of (after 0 fs) → is_some x ≡ any_of fs
unfolding after
any_some fs e = ap is_some e ∙ some_set 0 fs
