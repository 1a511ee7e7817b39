-- The test of one number or one row, from the words that the code read.
use Prim.Native.Nat.{ℕ, ◌<◌}
use mathlib.Core.Path.{◌≡◌}
use mathlib.Core.Bool.{true}
use mathlib.Core.List.{List}
use lib.Dec.{ltb, eqb}
use borrow.Author.Tests.{ltb-true, eqb-true}
use Rattle.base.proofs.Choice.{and_left, and_right}
use Rattle.repository.specs.Sections.{sec, stops, STATIONS, CHILDREN}
use Rattle.repository.specs.Listed.{child}

pub child_shown : (w : List ℕ) (p j : ℕ) → child w p j ≡ true → (sec w CHILDREN j < stops w) × (sec w STATIONS (sec w CHILDREN j) ≡ p)
unfolding child
child_shown w p j e =
    let a = ltb (sec w CHILDREN j) (stops w) in
    let b = eqb (sec w STATIONS (sec w CHILDREN j)) p in
    (ltb-true _ _ (and_left a b e), eqb-true _ _ (and_right a b e))
