-- Whole rows, by their test.
-- Assumes nothing.
use Prim.Native.Nat.{ℕ, ◌/◌, ◌%◌}
use mathlib.Core.Path.{◌≡◌, sym, ◌∙◌}
use mathlib.Core.Bool.{Bool, true, ◌&&◌}
use mathlib.Core.List.{List}
use lib.Dec.{leb, eqb}
use lib.ListN.{length}
use borrow.Author.Tests.{leb-true, eqb-true}
use Rattle.base.proofs.Choice.{and_left, and_right}
use Rattle.gtfs_write.specs.Written.{whole_rows, Whole}

pub whole_rows_lem : (most : ℕ) (w : List ℕ) {b : Bool} → b ≡ whole_rows most w → b ≡ true → Whole most w
unfolding whole_rows
whole_rows_lem most w e t =
    let a = eqb (length w % 4) 0 in
    let k : a && leb (length w / 4) most ≡ true = sym e ∙ t in
    record {
      fours = eqb-true (length w % 4) 0 (and_left a (leb (length w / 4) most) k);
      few = leb-true (length w / 4) most (and_right a (leb (length w / 4) most) k);
    }
