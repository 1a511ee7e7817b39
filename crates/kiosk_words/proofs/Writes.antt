-- A write into a slice leaves its length: what was in range stays there.
use Prim.Native.Nat.{ℕ, ◌≤◌, ◌<◌}
use mathlib.Core.List.{List}
use native.Mathlib.Omega.{arith}
use lib.ListN.{length, set, length-set}

pub in_set : {n k : ℕ} (i x : ℕ) (l : List ℕ) → n ≤ length l → k < n → k < length (set l i x)
in_set i x l h g = omega (arith, length-set l i x)
