-- What `read` answers and leaves: "every table, query and buffer is answered".
use Rattle.std.specs.Prelude.{ℕ, ◌/◌, ◌≡◌, Bool, true, false, cond, ◌||◌, List, leb, ltb, length, Result, Ok, Err, ⊤}
use Rattle.base.specs.Put.{with_bytes}
use Rattle.csv_text.specs.Lines.{lines}
use Rattle.names.specs.declared.Shelf.{Shelf}
use Rattle.names.specs.Booked.{Booked}
use Rattle.model.specs.Limits.{MOST_STOPS, MOST_TRIPS, MOST_STOP_TIMES, MOST_TRANSFERS}
use Rattle.feed.specs.declared.Room.{Room}
use Rattle.feed.specs.Feed.{End, done, bad_times, bad_transfers, full, Got}
use Rattle.feed.specs.Times.{read_times}
use Rattle.feed.specs.Reading.{without_mark, read_feed}
use Rattle.feed.specs.Rows.{flat_times, flat_transfers}
use Rattle.gtfs_read.specs.declared.Told.{Told}
use Rattle.gtfs_read.specs.declared.File.{File}
use Rattle.gtfs_read.specs.declared.File.TheVariants.{StopTimes, Transfers}
use Rattle.gtfs_read.specs.declared.Unfinished.{Unfinished}
use Rattle.gtfs_read.specs.declared.Unfinished.TheVariants.{TooLong, Bad, Full}

-- what is lent: two tables, and two books in which the ids are found again
pub record LentFeed : Type 0 where
  pub times : List ℕ
  pub transfers : List ℕ
  pub stops : List ℕ
  pub trips : List ℕ

abbrev pub lent_feed : List ℕ → List ℕ → List ℕ → List ℕ → LentFeed
lent_feed times transfers stops trips = record { times = times; transfers = transfers; stops = stops; trips = trips }

-- a row and a name take four words each; there are no more than document 01's limits
unfoldable pub rows_of : List ℕ → ℕ → ℕ
rows_of w most = cond (leb (length w / 4) most) (length w / 4) most

unfoldable pub feed_room : LentFeed → Room
feed_room l =
    record {
      stops = rows_of l.stops MOST_STOPS;
      trips = rows_of l.trips MOST_TRIPS;
      times = rows_of l.times MOST_STOP_TIMES;
      transfers = rows_of l.transfers MOST_TRANSFERS;
    }

-- a place in a file must fit 32 bits
unfoldable pub is_too_long : List ℕ → List ℕ → Bool
is_too_long a b = ltb 4_294_967_295 (length a) || ltb 4_294_967_295 (length b)

-- ---- the answer
-- "14 with its line for a bad line, 15 for a table that is full"
unfoldable pub number_for : End → ℕ
number_for done = 0
number_for (bad_times k) = 14
number_for (bad_transfers k) = 14
number_for full = 15

unfoldable pub line_for : End → ℕ
line_for done = 0
line_for (bad_times k) = k
line_for (bad_transfers k) = k
line_for full = 0

unfoldable pub file_for : End → ℕ
file_for done = 0
file_for (bad_times k) = 1
file_for (bad_transfers k) = 2
file_for full = 0

-- the same as the code answers with it
unfoldable pub ended_as : End → Result ⊤ Unfinished
ended_as done = Ok tt
ended_as (bad_times k) = Err (Bad StopTimes k)
ended_as (bad_transfers k) = Err (Bad Transfers k)
ended_as full = Err Full

-- the number of an ending, 1 where a file is too long; and for 14 the line, and the file: 1 is stop_times.txt, 2 is transfers.txt
abbrev pub ending_number : Result ⊤ Unfinished → ℕ
ending_number (Ok x) = 0
ending_number (Err TooLong) = 1
ending_number (Err (Bad file k)) = 14
ending_number (Err Full) = 15

abbrev pub ending_line : Result ⊤ Unfinished → ℕ
ending_line (Ok x) = 0
ending_line (Err TooLong) = 0
ending_line (Err (Bad file k)) = k
ending_line (Err Full) = 0

abbrev pub file_number : File → ℕ
file_number StopTimes = 1
file_number Transfers = 2

abbrev pub ending_file : Result ⊤ Unfinished → ℕ
ending_file (Ok x) = 0
ending_file (Err TooLong) = 0
ending_file (Err (Bad file k)) = file_number file
ending_file (Err Full) = 0

-- `split` stops are named in the first file
unfoldable pub told_by : ℕ → Got → Told
told_by split g =
    record {
      ending = ended_as g.end;
      stops = length g.feed.stops;
      split = split;
      trips = length g.feed.trips;
      times = length g.feed.times;
      transfers = length g.feed.transfers;
    }

-- how many stops stop_times.txt names
unfoldable pub split_of : Room → List ℕ → ℕ
split_of room a = length (read_times room (lines (without_mark a))).feed.stops

-- nothing is read of a file that is too long: number 1
unfoldable pub refused_long : Told
refused_long = record { ending = Err TooLong; stops = 0; split = 0; trips = 0; times = 0; transfers = 0 }

unfoldable pub told_feed : Room → List ℕ → List ℕ → Told
told_feed room a b = cond (is_too_long a b) refused_long (told_by (split_of room a) (read_feed room a b))

-- ---- what is left
unfoldable pub stops_shelf : Room → ℕ → Got → Shelf
stops_shelf room split g = record { cap = room.stops; split = split; count = length g.feed.stops }

unfoldable pub trips_shelf : Room → Got → Shelf
trips_shelf room g = record { cap = room.trips; split = 0; count = length g.feed.trips }

-- the rows of the lines that were taken stand in front of the tables and the ids' places in the books; behind them all is as it was
pub record Left (room : Room) (a b : List ℕ) (g : Got) (l l' : LentFeed) : Type 0 where
  pub times_left : l'.times ≡ with_bytes l.times 0 (flat_times g.feed.times)
  pub transfers_left : l'.transfers ≡ with_bytes l.transfers 0 (flat_transfers g.feed.transfers)
  pub stops_left_lem : Booked a b (stops_shelf room (split_of room a) g) l.stops l'.stops g.feed.stops
  pub trips_left_lem : Booked a a (trips_shelf room g) l.trips l'.trips g.feed.trips

-- two files were read into what was lent
pub record Reads (a b : List ℕ) (l : LentFeed) (r : Told) (l' : LentFeed) : Type 0 where
  pub said : r ≡ told_feed (feed_room l) a b
  pub read : is_too_long a b ≡ false → Left (feed_room l) a b (read_feed (feed_room l) a b) l l'
  pub refused : is_too_long a b ≡ true → l' ≡ l
