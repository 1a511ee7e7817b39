-- The last trip in list order that arrives not after x is the one just before the first place that arrives not before x + 1, where arrivals
-- are sorted.
use Prim.Native.Nat.{ℕ, zero, suc, ◌+◌, ◌-◌, ◌≤◌, ◌<◌}
use mathlib.Core.Path.{◌≡◌, refl, sym, ap, ◌∙◌}
use mathlib.Core.Bool.{Bool, true, false, cond}
use Rattle.std.specs.Prelude.{Option, None, Some, SomeIff}
use mathlib.Core.List.{List, ◌∷◌}
use native.Mathlib.Omega.{arith}
use native.Mathlib.Decide.{dec_lt}
use borrow.Author.Tests.{lt-leb, le-leb, leb-true, leb-false}
use Rattle.base.proofs.Choice.{split}
use Rattle.base.specs.First.{first}
use Rattle.base.specs.Halving.{Rising}
use Rattle.model.specs.declared.Direction.TheVariants.{Arrival}
use Rattle.model.specs.Lists.{upto}
use Rattle.model.specs.Tables.{Net}
use Rattle.model.specs.Rides.{last_trip, catch}
use Rattle.repository.specs.Accepted.{Ordered}
use Rattle.discovery.specs.Trips.{not_before, first_not_before, trip_before, trip_place}
use Rattle.discovery.proofs.Firsts.{first_fails, first_passes, first_most}
use Rattle.discovery.proofs.Tests.{not_before_rising}
use Rattle.discovery.proofs.Within.{trip_in, InRoute, at_in, none_in}

module _ (n : Net) (r p x : ℕ) where
  -- the trip at place i arrives after x
  abbrev after : ℕ → Bool
  after = not_before n r p (x + 1)

  -- a trip that arrives after the label is passed over, another is kept
  last_over : (i : ℕ) (l : List ℕ) (o : Option ℕ) → after i ≡ true → last_trip n r p x (i ∷ l) o ≡ last_trip n r p x l o
  unfolding last_trip not_before
  last_over i l o e =
      ap (λ (b : Bool). last_trip n r p x l (cond b (Some (n.trip_at r i)) o))
      (lt-leb (n.arrival (n.trip_at r i) p) x (omega (arith, leb-true (x + 1) _ e)))

  last_kept : (i : ℕ) (l : List ℕ) (o : Option ℕ) → after i ≡ false
      → last_trip n r p x (i ∷ l) o ≡ last_trip n r p x l (Some (n.trip_at r i))
  unfolding last_trip not_before
  last_kept i l o e =
      ap (λ (b : Bool). last_trip n r p x l (cond b (Some (n.trip_at r i)) o))
      (le-leb (n.arrival (n.trip_at r i) p) x (omega (arith, leb-false (x + 1) _ e)))

  last_same : (k i : ℕ) (o : Option ℕ) → ((j : ℕ) → i ≤ j → j < i + k → after j ≡ true)
      → last_trip n r p x (upto k i) o ≡ o
  unfolding last_trip upto
  last_same zero i o b = refl
  last_same (suc k) i o b =
      last_over i (upto k (suc i)) o (b i (omega arith) (omega arith))
      ∙ last_same k (suc i) o (λ j h g. b j (omega arith) (omega arith))

  last_some : (k i m : ℕ) (o : Option ℕ) → i ≤ m → m < i + k → ((j : ℕ) → i ≤ j → j ≤ m → after j ≡ false)
      → ((j : ℕ) → m < j → j < i + k → after j ≡ true) → last_trip n r p x (upto k i) o ≡ Some (n.trip_at r m)
  unfolding last_trip upto
  last_some zero i m o l g b a = absurd (omega arith)
  last_some (suc k) i m o l g b a =
      elim (dec_lt i m) [
        | yes d ↦
            last_kept i (upto k (suc i)) o (b i (omega arith) (omega arith))
            ∙ last_some k (suc i) m (Some (n.trip_at r i)) d (omega arith) (λ j h. b j (omega arith))
            (λ j h c. a j h (omega arith))
        | no d ↦
            let same : i ≡ m = omega arith in
            last_kept i (upto k (suc i)) o (b i (omega arith) (omega arith))
            ∙ last_same k (suc i) (Some (n.trip_at r i)) (λ j h c. a j (omega arith) (omega arith))
            ∙ ap (λ (y : ℕ). Some (n.trip_at r y)) same
      ]

  -- where one passes, all after it pass
  pass_on : Rising after (n.trips r) → (i j : ℕ) → i ≤ j → j < n.trips r → after i ≡ true → after j ≡ true
  pass_on up i j l g e =
      split (after j) (λ f. f)
      (λ f. let z : true ≡ false = sym e ∙ up.rising i j l g f in let y : ◌≡◌ {A = ℕ} 0 1 = cc in absurd (omega arith))

  most : first_not_before n r p (x + 1) ≤ n.trips r
  unfolding first_not_before
  most = omega (arith, first_most after (n.trips r) 0)

  module _ (o : Ordered n) (hr : r < n.routes) (hp : p < n.positions r) {i : ℕ} (e : i ≡ first_not_before n r p (x + 1)) where
    -- from the first place whose test passes on, all pass
    passes : (j : ℕ) → i ≤ j → j < n.trips r → after j ≡ true
    unfolding first_not_before
    passes j l g =
        let at : after (first after (n.trips r) 0) ≡ true = first_passes after (n.trips r) 0 (omega arith) in
        pass_on (not_before_rising n r p (x + 1) o hr hp) (first after (n.trips r) 0) j (omega arith) g at

    fails : (j : ℕ) → j < i → after j ≡ false
    unfolding first_not_before
    fails j l = first_fails after (n.trips r) 0 j (omega arith) (omega arith)

    latest_one : trip_in n r (trip_before i) ≡ catch Arrival n r p x
    unfolding trip_in catch trip_before
    latest_one = go i refl
      where
        go : (k : ℕ) → i ≡ k → trip_in n r (trip_before k) ≡ catch Arrival n r p x
        go zero z = sym (last_same (n.trips r) 0 None (λ j h g. passes j (omega arith) (omega arith)))
        go (suc k) z =
            sym (last_some (n.trips r) 0 k None (omega arith) (omega (arith, most, e)) (λ j h c. fails j (omega arith))
            (λ j h c. passes j (omega arith) (omega arith)))

  -- the trip at the place is the model's
  pub latest_trip : Ordered n → r < n.routes → p < n.positions r → trip_in n r (trip_place Arrival n r p x) ≡ catch Arrival n r p x
  unfolding trip_place
  latest_trip o hr hp = latest_one o hr hp refl

  pub latest_in : InRoute n r (trip_place Arrival n r p x)
  unfolding trip_place trip_before
  latest_in = go (first_not_before n r p (x + 1)) refl
    where
      go : (k : ℕ) → first_not_before n r p (x + 1) ≡ k → InRoute n r (trip_before k)
      go zero z = none_in n r
      go (suc k) z = at_in n r k (omega (arith, most))

  -- the place before the one that is found, or none where that is the first
  pub latest_at : {i : ℕ} (o : Option ℕ) → i ≡ first_not_before n r p (x + 1) → SomeIff o (1 ≤ i) (i - 1)
      → o ≡ trip_place Arrival n r p x
  unfolding trip_place trip_before
  latest_at {i} o e s = rw (← e) (go i o s)
    where
      go : (k : ℕ) (q : Option ℕ) → SomeIff q (1 ≤ k) (k - 1) → q ≡ trip_before k
      go zero None z = refl
      go (suc k) None z = absurd (z (omega arith))
      go zero (Some j) z = absurd (omega (arith, z.0))
      go (suc k) (Some j) z = let same : j ≡ k = omega (arith, z.1) in rw same
