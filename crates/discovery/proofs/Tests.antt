-- The test that halving goes by: sorted arrivals make it rise, and the arrival that was read decides it.
use Prim.Native.Nat.{ℕ, ◌<◌}
use mathlib.Core.Path.{◌≡◌, ap, ◌∙◌}
use native.Mathlib.Omega.{arith}
use lib.Dec.{leb}
use borrow.Author.Tests.{lt-leb, leb-false}
use Rattle.base.specs.Halving.{Rising}
use Rattle.model.specs.Tables.{Net}
use Rattle.repository.specs.Accepted.{Ordered}
use Rattle.repository.proofs.Sorted.{arrivals_sorted}
use Rattle.discovery.specs.Trips.{not_before}

module _ (n : Net) (r p x : ℕ) where
  pub not_before_rising : Ordered n → r < n.routes → p < n.positions r → Rising (not_before n r p x) (n.trips r)
  unfolding not_before
  not_before_rising o hr hp = record {
    rising =
        λ i j l g e.
        lt-leb x (n.arrival (n.trip_at r i) p) (omega (arith, leb-false x _ e, arrivals_sorted o hr hp l g));
  }

  -- the arrival that was read decides it
  pub not_before_is : (i : ℕ) {a v : ℕ} → v ≡ n.trip_at r i → a ≡ n.arrival v p → leb x a ≡ not_before n r p x i
  unfolding not_before
  not_before_is i e f = ap (leb x) (f ∙ ap (λ (v : ℕ). n.arrival v p) e)
