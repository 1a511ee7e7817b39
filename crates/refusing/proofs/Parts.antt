-- The first k of a list that has as many are k.
use Prim.Native.Nat.{ℕ, ◌≤◌}
use mathlib.Core.Path.{◌≡◌, sym}
use mathlib.Core.List.{List}
use lib.ListN.{length, take}
use lib.Seq.{length-take-le}

pub part_long : (k : ℕ) (l : List ℕ) → k ≤ length l → k ≡ length (take k l)
part_long k l h = sym (length-take-le k l h)
