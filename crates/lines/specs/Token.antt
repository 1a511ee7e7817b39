-- The value of a token, byte by byte.
use Rattle.std.specs.Prelude.{ℕ, ◌+◌, ◌*◌, ◌-◌, Bool, cond, ◌&&◌, leb, ltb}

abbrev pub digit : ℕ → Bool
digit b = leb 48 b && leb b 57

-- 2^32: what a number that is no u32 is held at
abbrev pub held : ℕ
held = 4_294_967_296

-- ten times the value and the digit, held at 2^32; a byte that is no digit stands for itself
abbrev pub longer_by : ℕ → ℕ → ℕ
longer_by v b = cond (digit b) (cond (ltb (v * 10 + (b - 48)) held) (v * 10 + (b - 48)) held) b
