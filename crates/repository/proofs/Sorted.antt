-- The trips of a route are in order, not only from one to the next: "arrivals never fall from one trip to the next, nor
-- do departures".
use Prim.Native.Nat.{ℕ, zero, suc, ◌+◌, ◌-◌, ◌≤◌, ◌<◌}
use mathlib.Core.Path.{◌≡◌}
use native.Mathlib.Omega.{arith}
use Rattle.model.specs.Tables.{Net}
use Rattle.repository.specs.Accepted.{Ordered}

-- what never falls from one number to the next never falls
steps : (f : ℕ → ℕ) (d i m : ℕ) → ((k : ℕ) → suc k < m → f k ≤ f (suc k)) → i + d < m → f i ≤ f (i + d)
steps f zero i m h l = let same : i + 0 ≡ i = omega arith in rw same (omega arith)
steps f (suc d) i m h l =
    let more : i + suc d ≡ suc (i + d) = omega arith in
    rw more (omega (arith, steps f d i m h (omega arith), h (i + d) (omega arith)))

pub never_falls : (f : ℕ → ℕ) (i j m : ℕ) → ((k : ℕ) → suc k < m → f k ≤ f (suc k)) → i ≤ j → j < m → f i ≤ f j
never_falls f i j m h l g = let sum : i + (j - i) ≡ j = omega arith in rw sum at (steps f (j - i) i m h (omega arith))

module _ {n : Net} (o : Ordered n) {r p i j : ℕ} (hr : r < n.routes) (hp : p < n.positions r) (l : i ≤ j)
    (hj : j < n.trips r) where
  pub arrivals_sorted : n.arrival (n.trip_at r i) p ≤ n.arrival (n.trip_at r j) p
  arrivals_sorted =
      never_falls (λ k. n.arrival (n.trip_at r k) p) i j (n.trips r) (λ k g. o.arrivals r k p hr g hp) l hj
