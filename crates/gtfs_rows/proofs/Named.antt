-- A text's number and the names with it, as request 1 has them.
-- Assumes nothing.
use Prim.Native.Nat.{ℕ, suc, ◌<◌}
use mathlib.Core.Path.{◌≡◌}
use mathlib.Core.Bool.{true, false}
use mathlib.Core.List.{List, [], ◌∷◌, ◌++◌}
use native.Mathlib.Omega.{arith}
use lib.ListN.{length}
use borrow.Author.Tests.{eq-eqb, ne_eqb}
use Rattle.columns.specs.Picks.{is_named}
use Rattle.feed.specs.Feed.{known_as, named_by, named, number_by, number_of}
use Rattle.feed.proofs.Naming.{known_below, known_is, known_new, known_either, is_named_there, is_named_not}
use Rattle.gtfs_rows.specs.Named.{names_with}

pub with_next : (names : List (List ℕ)) (t : List ℕ) (i : ℕ) → i ≡ length names → names_with names i t ≡ names ++ (t ∷ [])
unfolding names_with
with_next names t i e = rw (eq-eqb i (length names) e)

pub with_old : (names : List (List ℕ)) (t : List ℕ) (i : ℕ) → i < length names → names_with names i t ≡ names
unfolding names_with
with_old names t i h = rw (ne_eqb i (length names) (λ e. omega arith))

-- a text that is named has the names with its number
pub with_named : (names : List (List ℕ)) (t : List ℕ) (i : ℕ) → i ≡ number_of names t → names_with names i t ≡ named names t
unfolding named number_of number_by named_by
with_named names t i e =
    known_either names t
    (λ j k. let q : i ≡ j = rw k at e in rw k (with_old names t i (omega (arith, known_below names t j k))))
    (λ k. let q : i ≡ length names = rw k at e in rw k (with_next names t i q))

-- ---- the trip of a line
pub known_named : (names : List (List ℕ)) (t : List ℕ) (i : ℕ) → known_as names t ≡ suc i → is_named t names ≡ true
known_named names t i e = is_named_there names t (known_below names t i e) (known_is names t i e)

pub unknown_named : (names : List (List ℕ)) (t : List ℕ) → known_as names t ≡ 0 → is_named t names ≡ false
unknown_named names t e = is_named_not names t (known_new names t e)
