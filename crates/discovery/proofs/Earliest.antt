-- The first trip in list order is the one at the first place whose test passes.
use Prim.Native.Nat.{ℕ, zero, suc, ◌+◌, ◌≤◌, ◌<◌}
use mathlib.Core.Path.{◌≡◌, refl, sym}
use mathlib.Core.Bool.{true, false}
use Rattle.std.specs.Prelude.{None, Some}
use native.Mathlib.Omega.{arith}
use native.Mathlib.Decide.{dec_lt}
use borrow.Author.Tests.{lt-ltb, le-ltb, ltb-true, ltb-false}
use lib.Dec.{ltb}
use Rattle.base.proofs.Choice.{split}
use Rattle.base.specs.First.{first}
use Rattle.model.specs.declared.Direction.TheVariants.{Departure}
use Rattle.model.specs.Lists.{upto}
use Rattle.model.specs.Tables.{Net}
use Rattle.model.specs.Rides.{first_trip, catch}
use Rattle.discovery.specs.Trips.{not_before, first_not_before, trip_place}
use Rattle.discovery.proofs.Firsts.{first_fails, first_passes}
use Rattle.discovery.proofs.Within.{trip_in, InRoute, at_in, none_in}

module _ (n : Net) (r p x : ℕ) where
  first_some : (k i m : ℕ) → i ≤ m → m < i + k → ((j : ℕ) → i ≤ j → j < m → not_before n r p x j ≡ false)
      → not_before n r p x m ≡ true
      → first_trip n r p x (upto k i) ≡ Some (n.trip_at r m)
  unfolding first_trip upto not_before
  first_some zero i m l g b e = absurd (omega arith)
  first_some (suc k) i m l g b e =
      elim (dec_lt i m) [
        | yes d ↦ rw (b i (omega arith) d) (first_some k (suc i) m d (omega arith) (λ j h. b j (omega arith)) e)
        | no d ↦ let same : i ≡ m = omega arith in rw (same, e)
      ]

  first_none : (k i : ℕ) → ((j : ℕ) → i ≤ j → j < i + k → not_before n r p x j ≡ false)
      → first_trip n r p x (upto k i) ≡ None
  unfolding first_trip upto not_before
  first_none zero i b = refl
  first_none (suc k) i b =
      rw (b i (omega arith) (omega arith)) (first_none k (suc i) (λ j h g. b j (omega arith) (omega arith)))

  module _ {i m : ℕ} (e : i ≡ first_not_before n r p x) (f : m ≡ n.trips r) where
    pub earliest_at : i < m → Some i ≡ trip_place Departure n r p x
    unfolding trip_place
    earliest_at l = rw (← e, ← f, lt-ltb i m l)

    pub earliest_past : m ≤ i → None ≡ trip_place Departure n r p x
    unfolding trip_place
    earliest_past l = rw (← e, ← f, le-ltb i m l)

  -- the trip at that place is the model's
  pub earliest_trip : trip_in n r (trip_place Departure n r p x) ≡ catch Departure n r p x
  unfolding trip_place first_not_before trip_in catch
  earliest_trip =
      let t = not_before n r p x in
      let i = first t (n.trips r) 0 in
      split (ltb i (n.trips r))
      (λ e.
      let l = ltb-true i (n.trips r) e in
      rw e
      (sym (first_some (n.trips r) 0 i (omega arith) (omega arith) (first_fails t (n.trips r) 0) (first_passes t (n.trips r) 0 (omega arith)))))
      (λ e.
      let l = ltb-false i (n.trips r) e in
      rw e (sym (first_none (n.trips r) 0 (λ j h g. first_fails t (n.trips r) 0 j h (omega arith)))))

  pub earliest_in : InRoute n r (trip_place Departure n r p x)
  unfolding trip_place
  earliest_in =
      let i = first_not_before n r p x in
      split (ltb i (n.trips r)) (λ e. rw e (at_in n r i (ltb-true i (n.trips r) e))) (λ e. rw e (none_in n r))
