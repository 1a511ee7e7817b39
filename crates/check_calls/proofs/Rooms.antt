-- The rows of an entry of a starts section, and the entry of a row.
use Prim.Native.Nat.{ℕ, zero, suc, ◌+◌, ◌≤◌, ◌<◌}
use mathlib.Core.Path.{◌≡◌, sym, ap}
use mathlib.Core.List.{List}
use native.Mathlib.Omega.{arith}
use native.Mathlib.Numerals.{add-one}
use lib.Dec.{ltb}
use borrow.Author.Tests.{ltb-true, ltb-false}
use Rattle.base.proofs.Choice.{split}
use Rattle.repository.specs.Sections.{sec}
use Rattle.repository.specs.Laid.{Starts}
use Rattle.repository.specs.Accepted.{Under}
use Rattle.repository.proofs.Rooms.{starts_top}

-- the entry that row j stands under
pub record RowOf (w : List ℕ) (k n j : ℕ) : Type 0 where
  pub at : ℕ
  pub below : at < n
  pub under : Under w k at j

module _ {w : List ℕ} {k n m : ℕ} (s : Starts w k n m) where
  -- a row of an entry is a row of the list
  pub row_in : (i : ℕ) {j e : ℕ} → i < n → j < e → e ≡ sec w k (i + 1) → j < m
  row_in i h g e = omega (arith, starts_top s (i + 1) (omega arith))

  -- a row of the list is a row of an entry
  sought : (i j : ℕ) → i ≤ n → j < sec w k i → RowOf w k n j
  sought zero j h g = absurd (omega (arith, s.first))
  sought (suc i) j h g =
      let step : sec w k (suc i) ≡ sec w k (i + 1) = ap (sec w k) (sym (add-one i)) in
      split (ltb j (sec w k i))
      (λ t. sought i j (omega arith) (ltb-true j (sec w k i) t))
      (λ t. record { at = i; below = omega arith; under = record { from = ltb-false j (sec w k i) t; to = omega arith } })

  pub row_of : (j : ℕ) → j < m → RowOf w k n j
  row_of j h = sought n j (omega arith) (omega (arith, s.last))
