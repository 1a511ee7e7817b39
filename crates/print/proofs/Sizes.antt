-- A leg takes 17 or 21 bytes.
use Prim.Native.Nat.{ℕ, ◌≤◌}
use native.Mathlib.Omega.{arith}
use mathlib.Core.Path.{◌≡◌}
use Rattle.model.specs.declared.LegType.{LegType}
use Rattle.model.specs.declared.LegType.TheVariants.{Transit, Transfer, Walk}
use Rattle.model.specs.Bytes.{leg_size}

pub least : (c : LegType) {z : ℕ} → z ≡ leg_size c → 1 ≤ z
unfolding leg_size
least (Transit v) e = omega arith
least Transfer e = omega arith
least Walk e = omega arith

pub most : (c : LegType) {z : ℕ} → z ≡ leg_size c → z ≤ 21
unfolding leg_size
most (Transit v) e = omega arith
most Transfer e = omega arith
most Walk e = omega arith
