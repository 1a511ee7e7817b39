-- What the tests for numbers 3 and 4 show, and that tables without those numbers pass them.
use Prim.Native.Nat.{ℕ, zero, suc, ◌+◌, ◌-◌, ◌≤◌, ◌<◌}
use mathlib.Core.Path.{◌≡◌, sym, ◌∙◌}
use mathlib.Core.Bool.{Bool, true, ◌||◌}
use mathlib.Core.List.{List, [], ◌∷◌}
use native.Mathlib.Omega.{arith}
use native.Mathlib.Numerals.{add-one}
use lib.Dec.{leb}
use lib.ListN.{get_or}
use borrow.Author.Tests.{le-leb, lt-leb, leb-true, leb-false}
use Rattle.base.proofs.Choice.{split}
use Rattle.model.specs.Tables.{Net}
use Rattle.model.specs.Limits.{LAST_MOMENT}
use Rattle.repository.specs.Checked.{timely, timed, behind, ordered}
use Rattle.repository.specs.Accepted.{Timed, Ordered}
use Rattle.check_shape.proofs.Joined.{joined, joined_at}
use Rattle.check_times.proofs.Walk.{walk_at, walk_so}

module _ (n : Net) where
  module _ (r p i : ℕ) where
    abbrev timely_tests : List Bool
    timely_tests =
        let v = n.trip_at r i in
        leb 1 (n.arrival v p) ∷ leb (n.arrival v p) (n.departure v p) ∷ leb (n.departure v p) LAST_MOMENT
        ∷ (leb (n.positions r) (p + 1) || leb (n.departure v p) (n.arrival v (p + 1))) ∷ []

    timely_at : timely n r p i ≡ true → (k : ℕ) → get_or timely_tests k true ≡ true
    unfolding timely
    timely_at e = joined_at true timely_tests e

  timed_at : timed n ≡ true → (r i p : ℕ) → r < n.routes → i < n.trips r → p < n.positions r → (k : ℕ)
      → get_or (timely_tests r p i) k true ≡ true
  unfolding timed
  timed_at e r i p gr gi gp = timely_at r p i (walk_at n 0 (timely n) e r p i gr gp (omega arith) gi)

  pub timed_shown : timed n ≡ true → Timed n
  timed_shown e = record {
    from_one = λ r i p gr gi gp. leb-true _ _ (timed_at e r i p gr gi gp 0);
    stays = λ r i p gr gi gp. leb-true _ _ (timed_at e r i p gr gi gp 1);
    to_million = λ r i p gr gi gp. leb-true _ _ (timed_at e r i p gr gi gp 2);
    moves = moves;
  }
    where
      moves : (r i p : ℕ) → r < n.routes → i < n.trips r → suc p < n.positions r
          → n.departure (n.trip_at r i) p ≤ n.arrival (n.trip_at r i) (suc p)
      moves r i p gr gi gp =
          let g : p + 1 < n.positions r = omega arith in
          let last = timed_at e r i p gr gi (omega arith) 3 in
          let leaves = n.departure (n.trip_at r i) p in
          let next = n.arrival (n.trip_at r i) (p + 1) in
          let t : leb leaves next ≡ true = rw (lt-leb (n.positions r) (p + 1) g) at last in
          rw (← add-one p) (leb-true leaves next t)

  pub timed_so : Timed n → timed n ≡ true
  unfolding timed timely
  timed_so h = walk_so n 0 (timely n) keeps
    where
      next : (r p i : ℕ) → r < n.routes → i < n.trips r
          → leb (n.positions r) (p + 1) || leb (n.departure (n.trip_at r i) p) (n.arrival (n.trip_at r i) (p + 1))
          ≡ true
      next r p i gr gi =
          split (leb (n.positions r) (p + 1)) (λ t. rw t)
          (λ t.
          let g : p + 1 < n.positions r = leb-false _ _ t in
          rw (t, add-one p) (le-leb _ _ (h.moves r i p gr gi (omega arith))))

      keeps : (r p i : ℕ) → r < n.routes → p < n.positions r → 0 ≤ i → i < n.trips r → timely n r p i ≡ true
      keeps r p i gr gp l gi =
          let v = n.trip_at r i in
          rw (
            le-leb 1 (n.arrival v p) (h.from_one r i p gr gi gp),
            le-leb (n.arrival v p) (n.departure v p) (h.stays r i p gr gi gp),
            le-leb (n.departure v p) LAST_MOMENT (h.to_million r i p gr gi gp),
            next r p i gr gi,
          )

  -- a trip behind another
  module _ (r p i : ℕ) where
    abbrev behind_tests : List Bool
    behind_tests =
        let u = n.trip_at r i in
        let v = n.trip_at r (suc i) in
        leb (n.arrival u p) (n.arrival v p) ∷ leb (n.departure u p) (n.departure v p) ∷ []

    behind_joined : behind n r p (suc i) ≡ joined true behind_tests
    unfolding behind
    behind_joined = let e : suc i - 1 ≡ i = omega arith in rw (behind, e)

  ordered_at : ordered n ≡ true → (r i p : ℕ) → r < n.routes → suc i < n.trips r → p < n.positions r → (k : ℕ)
      → get_or (behind_tests r p i) k true ≡ true
  unfolding ordered
  ordered_at e r i p gr gi gp =
      let t = walk_at n 1 (behind n) e r p (suc i) gr gp (omega arith) gi in
      joined_at true (behind_tests r p i) (sym (behind_joined r p i) ∙ t)

  pub ordered_shown : ordered n ≡ true → Ordered n
  ordered_shown e = record {
    arrivals = λ r i p gr gi gp. leb-true _ _ (ordered_at e r i p gr gi gp 0);
    departures = λ r i p gr gi gp. leb-true _ _ (ordered_at e r i p gr gi gp 1);
  }

  pub ordered_so : Ordered n → ordered n ≡ true
  unfolding ordered
  ordered_so h = walk_so n 1 (behind n) keeps
    where
      keeps : (r p i : ℕ) → r < n.routes → p < n.positions r → 1 ≤ i → i < n.trips r → behind n r p i ≡ true
      keeps r p zero gr gp l gi = absurd (omega arith)
      keeps r p (suc i) gr gp l gi =
          let u = n.trip_at r i in
          let v = n.trip_at r (suc i) in
          rw (
            behind_joined r p i,
            le-leb (n.arrival u p) (n.arrival v p) (h.arrivals r i p gr gi gp),
            le-leb (n.departure u p) (n.departure v p) (h.departures r i p gr gi gp),
          )
