-- `marks::is_marked` meets its contract: `& 1` is the lowest digit, after the shift.
-- Assumes nothing.
use mathlib.Core.Path.{ap, ◌∙◌}
use Prim.Native.Nat.{ℕ, ◌/◌, ◌%◌, ◌^◌}
use lib.Dec.{eqb}
use lib.ListN.{get_or}
use lib.Bits.{and_mask}
use Rattle.base.proofs.Bits.{bit_is}
use Rattle.marks.specs.Marks.{marked}
use Rattle.marks.proofs.is_marked.Goals as goal

pub returns : goal.returns
unfolding marked
returns c =
    let s = c.args.s in
    let word = get_or c.args.marks.now (s / 64) 0 in
    ap (λ (x : ℕ). eqb x 1) (and_mask (word / 2 ^ (s % 64)) 1 ∙ bit_is word (s % 64))
