-- A text's number by the book, and the book with its name.
-- Assumes nothing.
use Prim.Native.Nat.{ℕ, zero, suc, ◌+◌, ◌-◌, ◌*◌, ◌≤◌, ◌<◌}
use mathlib.Core.Path.{◌≡◌, refl, sym, ap, ◌∙◌}
use mathlib.Core.Bool.{Bool, true, false}
use mathlib.Core.List.{List, []}
use native.Mathlib.Omega.{arith}
use lib.ListN.{length, get_or}
use borrow.Author.Tests.{eq-eqb, ne_eqb, lt-ltb}
use Rattle.base.proofs.Choice.{split}
use Rattle.csv_text.specs.Part.{part}
use Rattle.csv_text.specs.Texts.{same_text}
use Rattle.columns.specs.declared.Span.{Span}
use Rattle.columns.specs.Picks.{text_at, is_named}
use Rattle.names.specs.declared.Shelf.{Shelf}
use Rattle.std.specs.Prelude.{Option, None, Some}
use Rattle.std.specs.Option.{unwrap_or}
use Rattle.names.specs.Names.{place_among}
use Rattle.names.specs.Told.{found_as}
use Rattle.names.specs.Book.{name_at, names_in, one_more, Book, Added}
use Rattle.names.specs.Booked.{Booked}
use Rattle.names.proofs.Booking.{booked_count, booked_name, found_known, booked_more, past_on}
use Rattle.feed.specs.Feed.{known_as, number_by, number_of}
use Rattle.feed.specs.Times.{is_last}
use Rattle.feed.specs.Orderly.{seen_after}
use Rattle.gtfs_rows.specs.declared.times.Trip.{Trip}
use Rattle.gtfs_rows.specs.declared.times.Trip.TheVariants.{Last, New, Gone}
use Rattle.gtfs_rows.specs.Named.{names_with, counting}
use Rattle.gtfs_rows.specs.declared.times.Reached.{Reached}
use Rattle.gtfs_rows.specs.declared.times.Entry.{Entry}
use Rattle.gtfs_rows.specs.Taking.{trip_is, after_entry}
use Rattle.gtfs_rows.proofs.Named.{with_old, with_next, known_named, unknown_named}
use Rattle.gtfs_rows.proofs.Taking.{last_some}

-- a book holds its own names
pub booked_here : {first second : List ℕ} {shelf : Shelf} {w : List ℕ} → Book first second shelf w
    → Booked first second shelf w w (names_in first second shelf w)
booked_here b = record { book = b; texts = refl; long = refl; past = refl }

-- what was left once is left on
pub booked_on : {first second : List ℕ} {cap split n m : ℕ} {w w' w'' : List ℕ} {names names' : List (List ℕ)}
    → Booked first second (record { cap = cap; split = split; count = n }) w w' names
    → Booked first second (record { cap = cap; split = split; count = m }) w' w'' names' → n ≤ m
    → Booked first second (record { cap = cap; split = split; count = m }) w w'' names'
booked_on {cap = cap} {n = n} {m} {w} {w'} k l h = record {
  book = l.book;
  texts = l.texts;
  long = l.long ∙ k.long;
  past = l.past ∙ past_on w' w (cap + 3 * n) (cap + 3 * m) (omega arith) k.past;
}

-- ---- the number
was_there : (p : ℕ) {r : Option ℕ} {i : ℕ} → r ≡ found_as p → r ≡ Some i → p ≡ suc i
unfolding found_as
was_there zero q w = let z : ◌≡◌ {A = ℕ} 0 1 = cc in absurd (omega arith)
was_there (suc p) {r} {i} q w = let z : p ≡ i = cc in ap suc z

was_new : (p : ℕ) {r : Option ℕ} → r ≡ found_as p → r ≡ None → p ≡ 0
unfolding found_as
was_new zero q w = refl
was_new (suc p) q w = let z : ◌≡◌ {A = ℕ} 0 1 = cc in absurd (omega arith)

by_place : (names : List (List ℕ)) (p : ℕ) {n : ℕ} → n ≡ length names → unwrap_or (found_as p) n ≡ number_by names p
unfolding found_as number_by
by_place names zero e = e
by_place names (suc i) e = refl

module _ {first second : List ℕ} {shelf : Shelf} {w : List ℕ} (b : Book first second shelf w) (text : Span) {r : Option ℕ}
    (q : r ≡ found_as (place_among (name_at first second shelf w) (part text.from text.to second) shelf.count)) where
  known : known_as (names_in first second shelf w) (text_at second text)
      ≡ place_among (name_at first second shelf w) (part text.from text.to second) shelf.count
  unfolding known_as text_at
  known = sym (found_known (booked_here b) (part text.from text.to second))

  pub number_told : unwrap_or r shelf.count ≡ number_of (names_in first second shelf w) (text_at second text)
  unfolding number_of
  number_told = rw (q, known) (by_place (names_in first second shelf w) (place_among (name_at first second shelf w) (part text.from text.to second) shelf.count) (booked_count (booked_here b)))

-- ---- the names with it
module _ {first second : List ℕ} {shelf : Shelf} {w : List ℕ} (b : Book first second shelf w) (number : ℕ) (text : Span) where
  names : List (List ℕ)
  names = names_in first second shelf w

  pub count_old : number < shelf.count → shelf.count ≡ seen_after shelf.count number
  unfolding seen_after
  count_old h = rw (ne_eqb number shelf.count (λ e. omega arith))

  pub count_new : number ≤ shelf.count → shelf.count ≤ number → shelf.count + 1 ≡ seen_after shelf.count number
  unfolding seen_after
  count_new h k = rw (eq-eqb number shelf.count (omega arith)) (omega arith)

  pub name_old : number < shelf.count
      → Booked first second (counting shelf shelf.count) w w (names_with (names_in first second shelf w) number (text_at second text))
  name_old h =
      rw (with_old (names_in first second shelf w) (text_at second text) number (omega (arith, booked_count (booked_here b)))) (booked_here b)

  pub name_new : {w' : List ℕ} → number ≤ shelf.count → shelf.count ≤ number → Book first second (one_more shelf) w'
      → Added first second shelf w w' (part text.from text.to second)
      → Booked first second (counting shelf (shelf.count + 1)) w w' (names_with (names_in first second shelf w) number (text_at second text))
  unfolding text_at
  name_new h k c a =
      rw (with_next (names_in first second shelf w) (part text.from text.to second) number (omega (arith, booked_count (booked_here b))))
      (booked_more (booked_here b) c a)

-- ---- whose row it is
module _ {b : List ℕ} {shelf : Shelf} {w : List ℕ} (k : Book b b shelf w) (text : Span) where
  pub no_last : shelf.count ≡ 0 → false ≡ is_last (names_in b b shelf w) (text_at b text)
  unfolding is_last
  no_last e = let z : length (names_in b b shelf w) ≡ 0 = sym (booked_count (booked_here k)) ∙ e in rw z

  pub last_is : {r : Bool} → (shelf.count ≡ 0 → ⊥) → r ≡ same_text (part text.from text.to b) (name_at b b shelf w (shelf.count - 1))
      → r ≡ is_last (names_in b b shelf w) (text_at b text)
  unfolding is_last text_at
  last_is h q =
      let z : length (names_in b b shelf w) ≡ shelf.count = sym (booked_count (booked_here k)) in
      let n : name_at b b shelf w (shelf.count - 1) ≡ get_or (names_in b b shelf w) (shelf.count - 1) [] =
      booked_name (booked_here k) (shelf.count - 1) (omega arith) in
      q ∙ rw (z, lt-ltb 0 shelf.count (omega arith), n)

  pub trip_last : {l : Bool} → l ≡ is_last (names_in b b shelf w) (text_at b text) → l ≡ true → Last ≡ trip_is (names_in b b shelf w) (text_at b text)
  unfolding trip_is
  trip_last e h = rw (← e, h)

  module _ {l : Bool} (e : l ≡ is_last (names_in b b shelf w) (text_at b text)) (n : l ≡ false) {r : Option ℕ}
      (q : r ≡ found_as (place_among (name_at b b shelf w) (part text.from text.to b) shelf.count)) where
    pub trip_gone : {i : ℕ} → r ≡ Some i → Gone ≡ trip_is (names_in b b shelf w) (text_at b text)
    unfolding trip_is
    trip_gone {i} h =
        rw (
          ← e,
          n,
          known_named (names_in b b shelf w) (text_at b text) i
              (known k text q ∙ was_there (place_among (name_at b b shelf w) (part text.from text.to b) shelf.count) q h),
        )

    pub trip_new : r ≡ None → New ≡ trip_is (names_in b b shelf w) (text_at b text)
    unfolding trip_is
    trip_new h =
        rw (
          ← e,
          n,
          unknown_named (names_in b b shelf w) (text_at b text)
              (known k text q ∙ was_new (place_among (name_at b b shelf w) (part text.from text.to b) shelf.count) q h),
        )

-- where the row before is of the trip, there is a trip
pub last_counted : {b : List ℕ} {cap n : ℕ} {w : List ℕ} → Book b b (record { cap = cap; split = 0; count = n }) w → (t : List ℕ) {is : Trip}
    → is ≡ trip_is (names_in b b (record { cap = cap; split = 0; count = n }) w) t → is ≡ Last → 1 ≤ n
unfolding trip_is
last_counted {b} {cap} {n} {w} k t {is} q e =
    let names = names_in b b (record { cap = cap; split = 0; count = n }) w in
    split (is_last names t)
    (λ u. omega (arith, last_some names t u, booked_count (booked_here k)))
    (λ u. split (is_named t names)
    (λ z. let y : Last ≡ Gone = sym e ∙ q ∙ rw (u, z) in absurd (no_gone y))
    (λ z. let y : Last ≡ New = sym e ∙ q ∙ rw (u, z) in absurd (no_new y)))
  where
    no_gone : Last ≡ Gone → ⊥
    no_gone y = let z : ◌≡◌ {A = ℕ} 0 1 = cc in omega arith

    no_new : Last ≡ New → ⊥
    no_new y = let z : ◌≡◌ {A = ℕ} 0 1 = cc in omega arith

-- ---- a row that is entered
pub row_in : {n m : ℕ} (x : List ℕ) → n < m → 4 * m ≤ length x → 4 * n + 4 ≤ length x
row_in x h k = omega arith

pub after_entry_lem : (at : Reached) (e : Entry) {m n : ℕ} → m ≡ seen_after at.stops e.stop → n ≡ seen_after at.trips e.trip
    → record { stops = m; trips = n; times = at.times + 1; last = e.line.sequence } ≡ after_entry at e
unfolding after_entry
after_entry_lem at e p q = rw (p, q)
