-- A place that was found: the trip that stands there, and that it is one of the route.
use Prim.Native.Nat.{ℕ, ◌<◌}
use mathlib.Core.Path.{◌≡◌}
use Rattle.std.specs.Prelude.{Option, None, Some}
use native.Mathlib.Omega.{arith}
use Rattle.model.specs.Tables.{Net}

unfoldable pub trip_in : Net → ℕ → Option ℕ → Option ℕ
trip_in n r (Some i) = Some (n.trip_at r i)
trip_in n r None = None

pub record InRoute (n : Net) (r : ℕ) (t : Option ℕ) : Type 0 where
  pub within : (i : ℕ) → t ≡ Some i → i < n.trips r

module _ (n : Net) (r : ℕ) where
  pub at_in : (i : ℕ) → i < n.trips r → InRoute n r (Some i)
  at_in i h = record { within = λ j e. let same : i ≡ j = cc in rw (← same) h }

  pub none_in : InRoute n r None
  none_in = record { within = λ j e. let y : ◌≡◌ {A = ℕ} 0 1 = cc in absurd (omega arith) }
