-- A bracket around the first number that passes a test: how it starts, narrows and closes.
-- Assumes nothing.
use mathlib.Core.Path.{◌≡◌, sym}
use mathlib.Core.Bool.{Bool, true, false}
use Prim.Native.Nat.{ℕ, ◌+◌, ◌-◌, ◌/◌, ◌≤◌, ◌<◌}
use native.Mathlib.Omega.{arith}
use Rattle.base.specs.First.{first}
use Rattle.base.specs.Halving.{Rising, Bracket}
use Rattle.base.proofs.First.{first_is}

module _ {t : ℕ → Bool} {n : ℕ} where
  pub bracket_none : {hi : ℕ} → hi ≡ n → Bracket t n 0 hi
  bracket_none e = record {
    lo_hi = omega arith;
    hi_n = omega arith;
    below = λ k l. absurd (omega arith);
    above = λ l. absurd (omega arith);
  }

  pub bracket_up : {lo hi mid : ℕ} → Rising t n → Bracket t n lo hi → mid < hi → t mid ≡ false → Bracket t n (mid + 1) hi
  bracket_up {lo} {hi} {mid} r b h e = record {
    lo_hi = omega arith;
    hi_n = b.hi_n;
    below = λ k l. r.rising k mid (omega arith) (omega arith) e;
    above = b.above;
  }

  pub bracket_down : {lo hi mid : ℕ} → Bracket t n lo hi → lo ≤ mid → mid < hi → t mid ≡ true → Bracket t n lo mid
  bracket_down b g h e = record { lo_hi = g; hi_n = omega arith; below = b.below; above = λ _. e }

  pub bracket_done : {lo hi : ℕ} → Bracket t n lo hi → hi ≤ lo → lo ≡ first t n 0
  bracket_done {lo} {hi} b h =
      let e : hi ≡ lo = omega arith in
      sym (first_is t n 0 lo (omega arith) (omega arith) (λ k p q. b.below k q) (λ q. rw e at (b.above (omega arith))))

pub mid_low : (lo hi : ℕ) → lo ≤ lo + (hi - lo) / 2
mid_low lo hi = omega arith

pub mid_high : (lo hi : ℕ) → lo < hi → lo + (hi - lo) / 2 < hi
mid_high lo hi h = omega arith
