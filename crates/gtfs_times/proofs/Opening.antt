-- How a file begins: with no header, with a bad one, or with one whose columns are found.
-- Assumes nothing.
use Prim.Native.Nat.{ℕ, ◌+◌, ◌≤◌}
use mathlib.Core.Path.{◌≡◌, refl, sym, ap, subst, ◌∙◌}
use Rattle.std.specs.Prelude.{Option, None, Some, Err}
use mathlib.Core.List.{List, ◌∷◌}
use native.Mathlib.Omega.{arith}
use lib.ListN.{length, drop, drop_of_length-le}
use Rattle.base.specs.Put.{with_bytes}
use Rattle.csv_text.specs.There.{if_there}
use Rattle.csv_text.specs.Part.{part}
use Rattle.csv_text.specs.Lines.{lines}
use Rattle.csv_text.specs.declared.TextLine.{TextLine}
use Rattle.csv_text.specs.Read.{LineAt}
use Rattle.csv_text.specs.Fields.{fields}
use Rattle.csv_text.proofs.Stepping.{lines_none}
use Rattle.names.specs.Book.{Book}
use Rattle.names.proofs.Booking.{booked_none}
use Rattle.feed.specs.declared.Room.{Room}
use Rattle.feed.specs.declared.TimesColumns.{TimesColumns}
use Rattle.feed.specs.declared.Unread.TheVariants.{Bad as BadLine}
use Rattle.feed.specs.Feed.{empty_feed}
use Rattle.feed.specs.Columns.{times_columns}
use Rattle.feed.specs.Times.{times_from, times_under, read_times}
use Rattle.feed.specs.Reading.{without_mark}
use Rattle.feed.specs.Rows.{flat_by, flat_times}
use Rattle.feed.specs.Ending.{ending_of}
use Rattle.gtfs_rows.proofs.Naming.{booked_on}
use Rattle.gtfs_times.specs.declared.TimesTold.{TimesTold}
use Rattle.gtfs_times.specs.declared.Opened.{Opened}
use Rattle.gtfs_times.specs.Told.{times_told, told_at, unopened, OpensAs, Behind, Opens, Cleared, TimesRoom, no_names, stops_left, trips_left, TimesLeft}

-- ---- the header
module _ (b : List ℕ) (a : ℕ) (m : drop a b ≡ without_mark b) where
  pub open_none : length b ≤ a → Opens b None
  unfolding read_times unopened
  open_none h = record { opens = no_lines; starts = Prim.tt }
    where
      no_lines : (room : Room) → read_times room (lines (without_mark b)) ≡ unopened
      no_lines room = rw (← m, drop_of_length-le b h, lines_none)

  module _ {l : TextLine} (p : LineAt b a l) {j : Option TimesColumns} (y : j ≡ if_there (fields (part a l.end b)) times_columns) where
    first : lines (without_mark b) ≡ part a l.end b ∷ lines (drop l.next b)
    first = ap lines (sym m) ∙ p.parted

    under : (room : Room) → read_times room (lines (without_mark b)) ≡ times_under room j (lines (drop l.next b))
    unfolding read_times
    under room = rw (first, y)

    pub open_bad : j ≡ None → (r : Option Opened) → r ≡ None → Opens b r
    unfolding times_under unopened
    open_bad z r e = rw e (record { opens = λ room. rw z at (under room); starts = Prim.tt })

    pub open_rows : (c : TimesColumns) → j ≡ Some c → Opens b (Some (record { columns = c; from = l.next }))
    unfolding times_under
    open_rows c z = record { opens = λ room. rw z at (under room); starts = (omega (arith, p.further), p.within) }

-- ---- the file
module _ (b : List ℕ) {room : Room} {s₀ t₀ s t : List ℕ} (cl : Cleared room s₀ t₀ s t) {j : Option Opened} (o : Opens b j) where
  module _ (z : j ≡ None) where
    nothing : read_times room (lines (without_mark b)) ≡ unopened
    nothing = subst (λ (j : Option Opened). OpensAs b j room) z (o.opens room)

    pub none_told : {r : TimesTold} → r ≡ told_at (record { stops = 0; trips = 0; times = 0; last = 0 }) (Err (BadLine 1))
        → r ≡ times_told (read_times room (lines (without_mark b)))
    unfolding times_told ending_of unopened
    none_told w = w ∙ rw nothing

    pub none_left : (x : List ℕ) → TimesLeft room b (read_times room (lines (without_mark b))) x s₀ t₀ x s t
    unfolding with_bytes flat_times flat_by stops_left trips_left unopened
    none_left x =
        rw nothing (record { rows_left = refl; stops_left_lem = booked_none b b 0 cl.no_stops; trips_left_lem = booked_none b b 0 cl.no_trips })

  module _ (d : Opened) (z : j ≡ Some d) where
    rows_are : read_times room (lines (without_mark b)) ≡ times_from d.columns room 2 (lines (drop d.from b)) empty_feed 0
    rows_are = subst (λ (j : Option Opened). OpensAs b j room) z (o.opens room)

    pub rows_told : {r : TimesTold} → r ≡ times_told (times_from d.columns room 2 (lines (drop d.from b)) empty_feed 0)
        → r ≡ times_told (read_times room (lines (without_mark b)))
    rows_told w = w ∙ ap times_told (sym rows_are)

    pub rows_left : {x x' s' t' : List ℕ} → TimesLeft room b (times_from d.columns room 2 (lines (drop d.from b)) empty_feed 0) x s t x' s' t'
        → TimesLeft room b (read_times room (lines (without_mark b))) x s₀ t₀ x' s' t'
    unfolding stops_left trips_left
    rows_left w =
        rw rows_are
        (record {
          rows_left = w.rows_left;
          stops_left_lem = booked_on (booked_none b b 0 cl.no_stops) w.stops_left_lem (omega arith);
          trips_left_lem = booked_on (booked_none b b 0 cl.no_trips) w.trips_left_lem (omega arith);
        })

-- ---- what the rows ask for
module _ {room : Room} {s₀ t₀ s t : List ℕ} (cl : Cleared room s₀ t₀ s t) where
  pub cleared_room : {b x : List ℕ} → TimesRoom room b x s₀ t₀ → TimesRoom room b x s t
  cleared_room h = record {
    short = h.short;
    small = h.small;
    rows = h.rows;
    stop_words = omega (arith, cl.no_stops.long, h.stop_words);
    trip_words = omega (arith, cl.no_trips.long, h.trip_words);
  }

  pub no_stop_names : (b : List ℕ) → Book b b (no_names room.stops) s
  no_stop_names b = (booked_none b b 0 cl.no_stops).book

  pub no_trip_names : (b : List ℕ) → Book b b (no_names room.trips) t
  no_trip_names b = (booked_none b b 0 cl.no_trips).book

module _ (b : List ℕ) {j : Option Opened} (o : Opens b j) (d : Opened) (z : j ≡ Some d) where
  bounds : Behind b (Some d)
  bounds = subst (Behind b) z o.starts

  pub rows_begin : 1 ≤ d.from
  rows_begin = bounds.0

  pub rows_inside : d.from ≤ length b + 1
  rows_inside = bounds.1
