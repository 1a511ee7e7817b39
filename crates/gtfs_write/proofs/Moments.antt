-- The cells of a row's two moments: nine bytes each, one behind the other.
-- Assumes nothing.
use Prim.Native.Nat.{ℕ, ◌+◌, ◌≤◌}
use mathlib.Core.Path.{◌≡◌}
use mathlib.Core.List.{List, ◌++◌}
use native.Mathlib.Omega.{arith}
use lib.ListN.{length, set, length-append}
use Rattle.base.specs.Put.{with_bytes}
use Rattle.numbers.specs.Clock.{clock_text}
use Rattle.numbers.proofs.Shown.{clock_long}
use Rattle.gtfs_write.specs.Written.{cell}
use Rattle.gtfs_write.proofs.Filled.{cell_length, cell_put, meet_put}

moment_long : (m : ℕ) → length (cell (clock_text m) 44) ≡ 9
moment_long m = omega (arith, cell_length (clock_text m) 44, clock_long m)

pub moment_put : (b : List ℕ) (at m : ℕ) {x : List ℕ} → at + 9 ≤ length b → x ≡ with_bytes b at (clock_text m)
    → set x (at + 8) 44 ≡ with_bytes b at (cell (clock_text m) 44)
moment_put b at m h e =
    cell_put b at (clock_text m) 44 (omega (arith, moment_long m)) {e = at + 8} (omega (arith, clock_long m)) e

pub moments_long : (a d : ℕ) → length (cell (clock_text a) 44 ++ cell (clock_text d) 44) ≡ 18
moments_long a d = omega (arith, length-append (cell (clock_text a) 44) (cell (clock_text d) 44), moment_long a, moment_long d)

pub moments_put : (b : List ℕ) (at a d : ℕ) {x y : List ℕ} → at + 18 ≤ length b → x ≡ with_bytes b at (cell (clock_text a) 44)
    → y ≡ with_bytes x (at + 9) (cell (clock_text d) 44) → y ≡ with_bytes b at (cell (clock_text a) 44 ++ cell (clock_text d) 44)
moments_put b at a d h p q =
    meet_put at (cell (clock_text a) 44) (cell (clock_text d) 44) {e = at + 9} (omega (arith, moment_long a)) b (omega (arith, moments_long a d)) p q
