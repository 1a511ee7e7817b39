-- `marks::set_mark` meets its contract: `1 << k` is 2 ^ k, since k is below 64.
-- Assumes nothing.
use mathlib.Core.Path.{◌≡◌, ap, ◌∙◌}
use Prim.Native.Nat.{ℕ, ◌*◌, ◌/◌, ◌%◌, ◌^◌, ◌<◌}
use native.Mathlib.Nat.{one-mul, mod-lt, mod-eq_of_lt}
use lib.Dec.{lit<}
use lib.Pow.{pow-lt}
use lib.ListN.{get_or, set}
use lib.Bits.{bit_or}
use Rattle.marks.specs.Marks.{with_mark}
use Rattle.marks.proofs.set_mark.Goals as goal

one_shifted : (k : ℕ) → k < 64 → 1 * 2 ^ k % 2 ^ 64 ≡ 2 ^ k
one_shifted k h = ap (λ (x : ℕ). x % 2 ^ 64) (one-mul (2 ^ k)) ∙ mod-eq_of_lt (pow-lt h)

pub returns : goal.returns
unfolding with_mark
returns c =
    let s = c.args.s in
    let l = c.args.marks.now in
    ap (λ (x : ℕ). set l (s / 64) (bit_or (get_or l (s / 64) 0) x)) (one_shifted (s % 64) (mod-lt s (lit< tt)))
