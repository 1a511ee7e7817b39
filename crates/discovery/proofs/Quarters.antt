-- The three places that a step of `first_between` looks at: the middle, and the middles of both halves.
use Prim.Native.Nat.{ℕ, ◌+◌, ◌-◌, ◌/◌, ◌≤◌, ◌<◌}
use mathlib.Core.Bool.{Bool}
use native.Mathlib.Omega.{arith}
use Rattle.base.specs.Halving.{Bracket}

module _ (lo hi : ℕ) where
  abbrev mid : ℕ
  mid = lo + (hi - lo) / 2

  pub low_from : lo ≤ lo + (mid - lo) / 2
  low_from = omega arith

  pub low_mid : lo + (mid - lo) / 2 ≤ mid
  low_mid = omega arith

  pub mid_high : mid ≤ mid + (hi - mid) / 2
  mid_high = omega arith

  module _ (h : lo < hi) where
    pub low_below : lo + (mid - lo) / 2 < hi
    low_below = omega arith

    pub mid_below : mid < hi
    mid_below = omega arith

    pub high_below : mid + (hi - mid) / 2 < hi
    high_below = omega arith

    module _ {t : ℕ → Bool} {n : ℕ} (b : Bracket t n lo hi) where
      pub low_in : lo + (mid - lo) / 2 < n
      low_in = omega (arith, low_below, b.hi_n)

      pub mid_in : mid < n
      mid_in = omega (arith, mid_below, b.hi_n)

      pub high_in : mid + (hi - mid) / 2 < n
      high_in = omega (arith, high_below, b.hi_n)
