-- Where the readers read lies within the words: laid tables have room for every entry, row and part.
use Prim.Native.Nat.{ℕ, zero, suc, ◌+◌, ◌-◌, ◌*◌, ◌/◌, ◌≤◌, ◌<◌}
use mathlib.Core.Path.{◌≡◌, refl, ap}
use mathlib.Core.List.{List}
use native.Mathlib.Omega.{arith}
use native.Mathlib.Nat.{mul-le-mul_right, div-mul-le_self}
use lib.ListN.{length}
use Rattle.repository.specs.Sections.{start, size, sec, rows, CHILD_STARTS, ROUTE_STOP_STARTS, ROUTE_TRIP_STARTS}
use Rattle.repository.specs.Sections.{TIME_STARTS, AREA_STARTS, SECTIONS}
use Rattle.repository.specs.NetOf.{net_of}
use Rattle.repository.specs.Laid.{Laid, Starts}
use Rattle.repository.specs.Entries.{Entry, EntryWords}
use Rattle.repository.specs.Rows.{Listing, calls, transfers, walks, starts_of, wide_of, row_count, past_row}
use Rattle.repository.specs.Rows.{trip_count}

module _ {w : List ℕ} (h : Laid w) where
  -- each section begins where the words have not ended
  below : (d k : ℕ) → k + d ≡ SECTIONS → start w k ≤ length w
  below zero k e = let same : k ≡ SECTIONS = omega arith in rw same (omega (arith, h.last))
  below (suc d) k e =
      let next : start w (suc k) ≤ length w = below d (suc k) (omega arith) in
      let more : k + 1 ≡ suc k = omega arith in
      omega (arith, h.rise k (omega arith), ap (λ (i : ℕ). start w i) more)

  -- word i of section k, and all up to the section's end
  pub room : (k : ℕ) → k < SECTIONS → {i : ℕ} → i < size w k → start w k + i < length w
  unfolding size
  room k g l = omega (arith, below (SECTIONS - (k + 1)) (k + 1) (omega arith))

  pub part_room : (k : ℕ) → k < SECTIONS → {b : ℕ} → b ≤ size w k → start w k + b ≤ length w
  unfolding size
  part_room k g l = omega (arith, below (SECTIONS - (k + 1)) (k + 1) (omega arith), below (SECTIONS - k) k (omega arith))

  -- word `at` of row j of the section k, whose rows are `wide` words wide
  pub row_room : (k wide : ℕ) → k < SECTIONS → {j at : ℕ} → j < rows w k wide → at < wide
      → start w k + (j * wide + at) < length w
  row_room k wide g {j} {at} l m =
      room k g (omega (
        arith,
        mul-le-mul_right {m =
            suc j} {n = size w k / wide} wide l,
        div-mul-le_self (size w k) wide,
      ))

-- ---- the entries of a starts section

module _ {w : List ℕ} {k n m : ℕ} (s : Starts w k n m) where
  falls : (d i : ℕ) → i + d ≡ n → sec w k i ≤ m
  falls zero i e = let same : i ≡ n = omega arith in rw same (omega (arith, s.last))
  falls (suc d) i e =
      let next : sec w k (suc i) ≤ m = falls d (suc i) (omega arith) in
      let more : i + 1 ≡ suc i = omega arith in
      omega (arith, s.rise i (omega arith), ap (λ (j : ℕ). sec w k j) more)

  -- no entry says more rows than there are
  pub starts_top : (i : ℕ) → i ≤ n → sec w k i ≤ m
  starts_top i l = falls (n - i) i (omega arith)

  pub starts_entry : k < SECTIONS → size w k ≡ n + 1 → {i : ℕ} → i < n → Entry w k i
  starts_entry g e {i} l = record { section = g; next = omega arith; rise = s.rise i l }

  pub starts_list : k + 1 < SECTIONS → size w k ≡ n + 1 → m ≡ size w (k + 1) → {i : ℕ} → i < n → EntryWords w k i
  starts_list g e f {i} l = record {
    entry = starts_entry (omega arith) e l;
    section = g;
    within = omega (arith, starts_top (i + 1) (omega arith));
  }

module _ {w : List ℕ} (h : Laid w) {i : ℕ} where
  pub stop_of_route : i < (net_of w).routes → EntryWords w ROUTE_STOP_STARTS i
  unfolding net_of
  stop_of_route = starts_list h.route_stop_starts (omega arith) (omega (arith, h.route_stop_starts_size)) refl

  pub trip_of_route : i < (net_of w).routes → EntryWords w ROUTE_TRIP_STARTS i
  unfolding net_of
  trip_of_route = starts_list h.route_trip_starts (omega arith) (omega (arith, h.route_stop_starts_size, h.route_trip_starts_size)) refl

  pub child_of_stop : i < (net_of w).stops → EntryWords w CHILD_STARTS i
  unfolding net_of
  child_of_stop = starts_list h.child_starts (omega arith) h.child_starts_size refl

  pub stop_of_area : i < (net_of w).areas → EntryWords w AREA_STARTS i
  unfolding net_of
  stop_of_area = starts_list h.area_starts (omega arith) (omega (arith, h.area_starts_size)) refl

  pub time_of_trip : i < trip_count w → Entry w TIME_STARTS i
  unfolding trip_count
  time_of_trip = starts_entry h.time_starts (omega arith) (omega (arith, h.time_starts_size))

-- the rows of a stop, of each of the three lists
pub row_of_stop : (l : Listing) {w : List ℕ} → Laid w → {s : ℕ} → s < (net_of w).stops → Entry w (starts_of l) s
unfolding starts_of net_of
row_of_stop calls h = starts_entry h.call_starts (omega arith) h.call_starts_size
row_of_stop transfers h = starts_entry h.transfer_starts (omega arith) h.transfer_starts_size
row_of_stop walks h = starts_entry h.walk_starts (omega arith) h.walk_starts_size

pub past_in : (l : Listing) {w : List ℕ} → Laid w → {s : ℕ} → s < (net_of w).stops → past_row l w s ≤ row_count l w
unfolding past_row row_count starts_of wide_of net_of
past_in calls h {s} i = starts_top h.call_starts (s + 1) (omega arith)
past_in transfers h {s} i = starts_top h.transfer_starts (s + 1) (omega arith)
past_in walks h {s} i = starts_top h.walk_starts (s + 1) (omega arith)
