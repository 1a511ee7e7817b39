-- What the answers of the tests for numbers 3 and 4 come to.
use Prim.Native.Nat.{ℕ, zero, suc, ◌+◌, ◌-◌, ◌≤◌, ◌<◌}
use mathlib.Core.Path.{◌≡◌, refl, sym, ◌∙◌}
use mathlib.Core.Bool.{Bool, true, false, ◌&&◌, and-true, true≢false}
use mathlib.Core.List.{List}
use native.Mathlib.Omega.{arith}
use native.Mathlib.Numerals.{add-one}
use lib.Dec.{leb}
use borrow.Author.Tests.{le-leb, lt-leb}
use Rattle.base.proofs.Choice.{split}
use Rattle.model.specs.Tables.{Net}
use Rattle.model.specs.Limits.{LAST_MOMENT}
use Rattle.repository.specs.Sections.{arrival_in, departure_in}
use Rattle.repository.specs.NetOf.{net_of}
use Rattle.repository.specs.Rows.{time_row}
use Rattle.repository.specs.Checked.{walk, timely, behind, ordered}
use Rattle.repository.proofs.Trips.{arrival_is, departure_is}
use Rattle.check_times.proofs.Walk.{walk_at, walk_so}

-- what a row's times come to
module _ (w : List ℕ) (r p i : ℕ) {row a d end : ℕ} (er : row ≡ time_row w ((net_of w).trip_at r i)) (ea : a ≡ arrival_in w row p)
    (ed : d ≡ departure_in w row p) (ee : end ≡ (net_of w).positions r) where
  arrives : a ≡ (net_of w).arrival ((net_of w).trip_at r i) p
  arrives = arrival_is w ((net_of w).trip_at r i) p er ea

  departs : d ≡ (net_of w).departure ((net_of w).trip_at r i) p
  departs = departure_is w ((net_of w).trip_at r i) p er ed

  pub timely_next : {b : ℕ} → p + 1 < end → b ≡ arrival_in w row (p + 1)
      → leb 1 a && leb a d && leb d LAST_MOMENT && leb d b ≡ timely (net_of w) r p i
  unfolding timely
  timely_next g eb =
      let next = arrival_is w ((net_of w).trip_at r i) (p + 1) er eb in
      rw (← ee, lt-leb end (p + 1) g, ← arrives, ← departs, ← next)

  pub timely_last : end ≤ p + 1 → leb 1 a && leb a d && leb d LAST_MOMENT ≡ timely (net_of w) r p i
  unfolding timely
  timely_last g =
      let stays = leb 1 a && leb a d && leb d LAST_MOMENT in
      rw (← ee, le-leb end (p + 1) g, ← arrives, ← departs, and-true stays)

-- the moment of the trip before, and 0 before the first
abbrev before : (ℕ → ℕ) → ℕ → ℕ
before f zero = 0
before f (suc i) = f i

pub record Last (n : Net) (r p i a d : ℕ) : Type 0 where
  pub arrival : a ≡ before (λ j. n.arrival (n.trip_at r j) p) i
  pub departure : d ≡ before (λ j. n.departure (n.trip_at r j) p) i

module _ (n : Net) (r p : ℕ) where
  pub last_start : Last n r p 0 0 0
  last_start = record { arrival = refl; departure = refl }

  behind_first : behind n r p 0 ≡ true
  unfolding behind
  behind_first =
      let v = n.trip_at r 0 in
      let a = n.arrival v p in
      let d = n.departure v p in
      rw (le-leb a a (omega arith), le-leb d d (omega arith))

  pub last_on : {i u v : ℕ} → u ≡ n.arrival (n.trip_at r i) p → v ≡ n.departure (n.trip_at r i) p
      → Last n r p (i + 1) u v
  last_on {i} eu ev = rw (add-one i) (record { arrival = eu; departure = ev })

  behind_cases : (i a d u v : ℕ) → Last n r p i a d → u ≡ n.arrival (n.trip_at r i) p
      → v ≡ n.departure (n.trip_at r i) p → leb a u && leb d v ≡ behind n r p i
  unfolding behind
  behind_cases zero a d u v h eu ev =
      let ea : a ≡ 0 = h.arrival in
      let ed : d ≡ 0 = h.departure in
      rw (le-leb a u (omega arith), le-leb d v (omega arith)) (sym behind_first)
  behind_cases (suc i) a d u v h eu ev =
      let e : suc i - 1 ≡ i = omega arith in
      rw (behind, e, h.arrival, h.departure, eu, ev)

  pub behind_is : {i a d u v : ℕ} → Last n r p i a d → u ≡ n.arrival (n.trip_at r i) p
      → v ≡ n.departure (n.trip_at r i) p → leb a u && leb d v ≡ behind n r p i
  behind_is {i} {a} {d} {u} {v} h eu ev = behind_cases i a d u v h eu ev

-- the walk may begin with the first trip, behind which there is none
from_first : (n : Net) (b : Bool) → walk n 0 (behind n) ≡ b → walk n 1 (behind n) ≡ b
from_first n true e = walk_so n 1 (behind n) (λ r p i gr gp l gi. walk_at n 0 (behind n) e r p i gr gp (omega arith) gi)
from_first n false e =
    split (walk n 1 (behind n))
    (λ t. absurd (true≢false (sym (walk_so n 0 (behind n) (each t)) ∙ e)))
    (λ t. t)
  where
    each : walk n 1 (behind n) ≡ true → (r p i : ℕ) → r < n.routes → p < n.positions r → 0 ≤ i → i < n.trips r
        → behind n r p i ≡ true
    each t r p zero gr gp l gi = behind_first n r p
    each t r p (suc i) gr gp l gi = walk_at n 1 (behind n) t r p (suc i) gr gp (omega arith) gi

pub ordered_is : (n : Net) {b : Bool} → b ≡ walk n 0 (behind n) → b ≡ ordered n
unfolding ordered
ordered_is n {b} e = sym (from_first n b (sym e))
