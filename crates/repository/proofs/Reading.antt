-- The readers: that each of their words is in range, and what it is, in the shape in which their code asks.
use Prim.Native.Nat.{ℕ, ◌+◌, ◌-◌, ◌*◌, ◌≤◌, ◌<◌}
use mathlib.Core.Path.{◌≡◌, refl, ap, ◌∙◌}
use mathlib.Core.List.{List, [], ◌∷◌}
use native.Mathlib.Omega.{arith}
use native.Mathlib.Nat.{add-zero}
use borrow.Author.Tests.{eq-eqb, ne_eqb}
use lib.Dec.{eqb}
use lib.ListN.{length}
use lib.Ieee.{Float, of_bits, binary32}
use Rattle.base.specs.Tab.{tab}
use Rattle.shared.specs.Walk.{Stretch}
use Rattle.model.specs.Moments.{MAX}
use Rattle.std.specs.Prelude.{None, Some}
use Rattle.repository.specs.Sections.{start, size, sec, stops, STOP_LIST, STATIONS, SERVED, ROUTE_STOP_STARTS}
use Rattle.repository.specs.Sections.{ROUTE_STOPS, ROUTE_TRIP_STARTS, ROUTE_TRIPS, TIMES, STANDING, SECTIONS, TIME_WORDS, STANDING_WORDS}
use Rattle.repository.specs.Sections.{transfer_bits, walk_bits}
use Rattle.repository.specs.NetOf.{count, list_of, station_of, net_of}
use Rattle.repository.specs.Laid.{Laid}
use Rattle.repository.specs.Accepted.{Accepted}
use Rattle.repository.specs.Readable.{Searchable}
use Rattle.repository.specs.Entries.{Entry, Part, EntryWords}
use Rattle.repository.specs.Rows.{Listing, calls, transfers, walks, starts_of, wide_of, row_count, past_row}
use Rattle.repository.specs.Rows.{trip_count, time_count}
use Rattle.repository.proofs.Tabs.{tab_shift}
use Rattle.repository.proofs.Rooms.{room, row_room, trip_of_route, past_in}

pub list_entry : {w : List ℕ} {k i : ℕ} → EntryWords w k i → Entry w k i
list_entry l = l.entry

-- word p under entry i, whose words are those of section k + 1
list_room : {w : List ℕ} → Laid w → (k : ℕ) {i p : ℕ} → EntryWords w k i → p < count w k i
    → start w (k + 1) + (sec w k i + p) < length w
unfolding count
list_room h k l m = room h (k + 1) (omega (arith, l.section)) (omega (arith, l.within))

module _ {w : List ℕ} {r p a : ℕ} (h : Laid w) (i : r < (net_of w).routes) where
  pub trip_room : p < (net_of w).trips r → a ≡ sec w ROUTE_TRIP_STARTS r → start w ROUTE_TRIPS + (a + p) < length w
  unfolding net_of
  trip_room m e = rw e (list_room h ROUTE_TRIP_STARTS (trip_of_route h i) m)

-- what the words are
module _ (w : List ℕ) (r p : ℕ) {a x : ℕ} where
  pub trip_at_is : a ≡ sec w ROUTE_TRIP_STARTS r → x ≡ sec w ROUTE_TRIPS (a + p) → x ≡ (net_of w).trip_at r p
  unfolding net_of
  trip_at_is e f = rw e at f

pub served_is : (w : List ℕ) (s : ℕ) {x : ℕ} → x ≡ sec w SERVED s → eqb x 1 ≡ (net_of w).served s
unfolding net_of
served_is w s e = rw e

-- the words of an entry, from the first to the one before the next entry's
pub listing_is : (w : List ℕ) (k i : ℕ) {q : List ℕ} {a b : ℕ} → a ≡ sec w k i → b ≡ sec w k (i + 1)
    → q ≡ tab (sec w (k + 1)) (b - a) a → q ≡ list_of w k (sec w (k + 1)) i
unfolding list_of count
listing_is w k i ea eb f = rw (ea, eb) at f

-- ---- rows of the three lists, and of the times

section_in : (l : Listing) → starts_of l + 1 < SECTIONS
unfolding starts_of
section_in calls = omega arith
section_in transfers = omega arith
section_in walks = omega arith

wide_some : (l : Listing) → 0 < wide_of l
unfolding wide_of
wide_some calls = omega arith
wide_some transfers = omega arith
wide_some walks = omega arith

module _ (l : Listing) {w : List ℕ} (h : Laid w) {j : ℕ} (i : j < row_count l w) where
  pub cell_room : (at : ℕ) → at < wide_of l → start w (starts_of l + 1) + (j * wide_of l + at) < length w
  unfolding row_count
  cell_room at m = row_room h (starts_of l + 1) (wide_of l) (section_in l) i m

  -- its first word
  pub cell_room_0 : start w (starts_of l + 1) + j * wide_of l < length w
  cell_room_0 = omega (arith, cell_room 0 (wide_some l))

pub past_known : (l : Listing) {w : List ℕ} {s b : ℕ} → Laid w → s < (net_of w).stops → b ≡ past_row l w s
    → b ≤ row_count l w
past_known l h i e = omega (arith, past_in l h i)

module _ {w : List ℕ} (row p : ℕ) (h : Laid w) (i : row + p < time_count w) where
  pub arrival_room : start w TIMES + (row + p) * TIME_WORDS < length w
  unfolding time_count
  arrival_room = omega (arith, row_room h TIMES TIME_WORDS (omega arith) {at = 0} i (omega arith))

  pub departure_room : start w TIMES + ((row + p) * TIME_WORDS + 1) < length w
  unfolding time_count
  departure_room = row_room h TIMES TIME_WORDS (omega arith) i (omega arith)

-- the row of a trip's standing, by its first word
pub standing_room : {w : List ℕ} {v : ℕ} → Laid w → v < trip_count w → start w STANDING + v * STANDING_WORDS < length w
unfolding trip_count
standing_room h i = room h STANDING (omega arith) (omega (arith, h.standing_size))

-- the metres of searchable tables
pub stretch_of : (bits : ℕ) (d : Float) → Stretch (of_bits binary32 bits) → d ≡ of_bits binary32 bits → Stretch d
stretch_of bits d h e = rw e h

module _ {w : List ℕ} (j : ℕ) {bits : ℕ} (h : Searchable w) where
  pub transfer_stretch : j < row_count transfers w → bits ≡ transfer_bits w j → Stretch (of_bits binary32 bits)
  unfolding row_count starts_of wide_of
  transfer_stretch i e = rw e (h.measured.transfers j i)

  pub walk_stretch : j < row_count walks w → bits ≡ walk_bits w j → Stretch (of_bits binary32 bits)
  unfolding row_count starts_of wide_of
  walk_stretch i e = rw e (h.measured.walks j i)

-- ---- stops

-- the word of stop s in a section that has one for each stop
pub stop_word : {w : List ℕ} (k : ℕ) {s : ℕ} → k < SECTIONS → size w k ≡ stops w → Laid w → s < (net_of w).stops
    → start w k + s < length w
unfolding net_of
stop_word k g e h i = room h k g (omega arith)

module _ (w : List ℕ) (s : ℕ) {p : ℕ} (e : p ≡ sec w STATIONS s) where
  pub station_none : p ≡ MAX → None ≡ (net_of w).station s
  unfolding net_of station_of
  station_none f = rw (← e, eq-eqb _ _ f)

  pub station_some : (p ≡ MAX → ⊥) → Some p ≡ (net_of w).station s
  unfolding net_of station_of
  station_some f = rw (← e, ne_eqb _ _ f)

module _ {w : List ℕ} {s : ℕ} (h : Accepted w) (i : s < (net_of w).stops) where
  pub entry_part : Part w STOP_LIST s (s + 1)
  unfolding net_of
  entry_part = record { section = omega arith; rise = omega arith; within = omega arith }

  pub entry_small : s + 1 < 4294967296
  unfolding net_of
  entry_small = omega (arith, h.laid.stops_limit)

  pub entry_alone : {q : List ℕ} → q ≡ tab (sec w STOP_LIST) (s + 1 - s) s → q ≡ s ∷ []
  unfolding net_of tab
  entry_alone e =
      let one : s + 1 - s ≡ 1 = omega arith in
      e ∙ ap (λ (n : ℕ). tab (sec w STOP_LIST) n s) one ∙ ap (λ (x : ℕ). x ∷ []) (h.listed.stop_list_lem s i)

-- ---- the stops of a route

pub stops_are : (w : List ℕ) (r : ℕ) {q : List ℕ} → q ≡ list_of w ROUTE_STOP_STARTS (sec w ROUTE_STOPS) r
    → q ≡ tab ((net_of w).stop_at r) ((net_of w).positions r) 0
unfolding net_of list_of
stops_are w r e =
    e ∙ (rw add-zero at (tab_shift (sec w ROUTE_STOPS) (λ p. sec w ROUTE_STOPS (sec w ROUTE_STOP_STARTS r + p)) (count w ROUTE_STOP_STARTS r) 0 (sec w ROUTE_STOP_STARTS r) (λ p. refl)))
