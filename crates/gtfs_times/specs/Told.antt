-- What the reader of stop_times.txt answers, and what it must be lent.
use Rattle.std.specs.Prelude.{ℕ, ◌+◌, ◌*◌, ◌≤◌, ◌≡◌, List, length, drop, Option, None, Some, Result, ⊤}
use Rattle.base.specs.Put.{with_bytes}
use Rattle.csv_text.specs.Lines.{lines}
use Rattle.names.specs.declared.Shelf.{Shelf}
use Rattle.names.specs.Book.{Empty}
use Rattle.names.specs.Booked.{Booked}
use Rattle.feed.specs.declared.Room.{Room}
use Rattle.feed.specs.declared.Unread.{Unread}
use Rattle.feed.specs.Feed.{empty_feed, bad_times, Got}
use Rattle.feed.specs.Rows.{flat_times}
use Rattle.feed.specs.Times.{times_from, read_times}
use Rattle.feed.specs.Reading.{without_mark}
use Rattle.feed.specs.Ending.{ending_of}
use Rattle.gtfs_rows.specs.declared.times.Reached.{Reached}
use Rattle.gtfs_times.specs.declared.Opened.{Opened}
use Rattle.gtfs_times.specs.declared.TimesTold.{TimesTold}

unfoldable pub times_told : Got → TimesTold
times_told g =
    record {
      stops = length g.feed.stops;
      trips = length g.feed.trips;
      times = length g.feed.times;
      ending = ending_of g.end;
    }

-- the same by what was reached
abbrev pub told_at : Reached → Result ⊤ Unread → TimesTold
told_at at ending = record { stops = at.stops; trips = at.trips; times = at.times; ending = ending }

-- ---- the header
-- a file whose header is bad takes nothing: 14 at line 1
unfoldable pub unopened : Got
unopened = record { feed = empty_feed; end = bad_times 1 }

-- the rows begin at `from`, and the header's columns are these
abbrev pub OpensAs : List ℕ → Option Opened → Room → Type 0
OpensAs b (Some o) room = read_times room (lines (without_mark b)) ≡ times_from o.columns room 2 (lines (drop o.from b)) empty_feed 0
OpensAs b None room = read_times room (lines (without_mark b)) ≡ unopened

abbrev pub Behind : List ℕ → Option Opened → Type 0
Behind b (Some o) = (1 ≤ o.from) × (o.from ≤ length b + 1)
Behind b None = Unit {0}

pub record Opens (b : List ℕ) (r : Option Opened) : Type 0 where
  pub opens : (room : Room) → OpensAs b r room
  pub starts : Behind b r

-- ---- what it must be lent: tables and books have their room, and the file's places fit 32 bits
pub record TimesRoom (room : Room) (bytes times stops trips : List ℕ) : Type 0 where
  pub short : length bytes ≤ 4_294_967_295
  pub small : room.times ≤ 4_294_967_295
  pub rows : 4 * room.times ≤ length times
  pub stop_words : 4 * room.stops ≤ length stops
  pub trip_words : 4 * room.trips ≤ length trips

-- books of no names
pub record Cleared (room : Room) (stops trips stops' trips' : List ℕ) : Type 0 where
  pub no_stops : Empty room.stops stops stops'
  pub no_trips : Empty room.trips trips trips'

-- a book of no names
abbrev pub no_names : ℕ → Shelf
no_names cap = record { cap = cap; split = 0; count = 0 }

-- ---- what it leaves
unfoldable pub stops_left : Room → Got → Shelf
stops_left room g = record { cap = room.stops; split = 0; count = length g.feed.stops }

unfoldable pub trips_left : Room → Got → Shelf
trips_left room g = record { cap = room.trips; split = 0; count = length g.feed.trips }

-- the rows in front of the table, the ids in the books; behind them all is as it was
pub record TimesLeft (room : Room) (bytes : List ℕ) (g : Got) (times stops trips times' stops' trips' : List ℕ) : Type 0 where
  pub rows_left : times' ≡ with_bytes times 0 (flat_times g.feed.times)
  pub stops_left_lem : Booked bytes bytes (stops_left room g) stops stops' g.feed.stops
  pub trips_left_lem : Booked bytes bytes (trips_left room g) trips trips' g.feed.trips
