-- What `read` leaves in what was lent, by its answer; and what the writers did.
use Rattle.std.specs.Prelude.{ℕ, ◌+◌, ◌*◌, ◌/◌, ◌≤◌, ◌<◌, ◌≡◌, List, length, take, drop, Result, Ok, Err}
use Rattle.model.specs.Limits.{MOST_STOPS, MOST_TRIPS, MOST_STOP_TIMES, MOST_TRANSFERS}
use Rattle.names.specs.declared.Shelf.{Shelf}
use Rattle.names.specs.Book.{start_at, end_at, names_in}
use Rattle.names.specs.Booked.{SameBook}
use Rattle.csv_text.specs.Lines.{lines}
use Rattle.feed.specs.declared.Room.{Room}
use Rattle.feed.specs.Feed.{Feed}
use Rattle.feed.specs.Reading.{without_mark}
use Rattle.feed.specs.Held.{Once, InRoom}
use Rattle.feed.specs.Speaking.{SaysTimes, SaysTransfers}
use Rattle.feed.specs.Orderly.{none_seen, after_times, after_transfers, Orderly}
use Rattle.feed.specs.Rows.{time_rows_in, flat_times, transfer_rows_in, flat_transfers}
use Rattle.feed.specs.Writing.{write_times, write_transfers}
use Rattle.gtfs_read.specs.declared.Told.{Told}
use Rattle.gtfs_read.specs.Reads.{LentFeed, feed_room}
use Rattle.gtfs_write.specs.declared.Unwritten.{Unwritten}
use Rattle.gtfs_write.specs.declared.Unwritten.TheVariants.{Full}
use Rattle.gtfs_write.specs.Refusing.{by_number}
use Rattle.gtfs_write.specs.Written.{held_after}
use Rattle.gtfs_write_times.specs.WrittenTimes.{written_times}
use Rattle.gtfs_write_transfers.specs.WrittenTransfers.{written_transfers}
use Rattle.gtfs_promises.specs.Answers.{BothShort, AnswersWith}

-- ---- what was read
-- the words of the rows, at the front of their table
unfoldable pub time_words_read : Told → LentFeed → List ℕ
time_words_read r l = take (4 * r.times) l.times

unfoldable pub transfer_words_read : Told → LentFeed → List ℕ
transfer_words_read r l = take (4 * r.transfers) l.transfers

-- the books, by what was lent and what was answered
unfoldable pub stop_book : LentFeed → Told → Shelf
stop_book l r = record { cap = (feed_room l).stops; split = r.split; count = r.stops }

unfoldable pub trip_book : LentFeed → Told → Shelf
trip_book l r = record { cap = (feed_room l).trips; split = 0; count = r.trips }

-- the place of name i in a book with so many heads is one of the file
pub record StandsIn (file : List ℕ) (cap : ℕ) (book : List ℕ) (i : ℕ) : Type 0 where
  pub ordered : start_at cap book i ≤ end_at cap book i
  pub inside : end_at cap book i ≤ length file

-- the tables and the books hold the feed f, and behind it all is as it was
pub record Holds (a b : List ℕ) (l : LentFeed) (r : Told) (l' : LentFeed) (f : Feed) : Type 0 where
  pub stops_counted : r.stops ≡ length f.stops
  pub trips_counted : r.trips ≡ length f.trips
  pub times_counted : r.times ≡ length f.times
  pub transfers_counted : r.transfers ≡ length f.transfers
  pub time_rows : time_words_read r l' ≡ flat_times f.times
  pub transfer_rows : transfer_words_read r l' ≡ flat_transfers f.transfers
  pub stop_names : names_in a b (stop_book l r) l'.stops ≡ f.stops
  pub trip_names : names_in a a (trip_book l r) l'.trips ≡ f.trips
  pub behind_times : drop (4 * r.times) l'.times ≡ drop (4 * r.times) l.times
  pub behind_transfers : drop (4 * r.transfers) l'.transfers ≡ drop (4 * r.transfers) l.transfers
  pub behind_stops : drop ((feed_room l).stops + 3 * r.stops) l'.stops ≡ drop ((feed_room l).stops + 3 * r.stops) l.stops
  pub behind_trips : drop ((feed_room l).trips + 3 * r.trips) l'.trips ≡ drop ((feed_room l).trips + 3 * r.trips) l.trips

-- both files could be read, and P is how they were: what was taken until then is left
pub record ReadUntil (P : Feed → Type 0) (a b : List ℕ) (l : LentFeed) (r : Told) (l' : LentFeed) : Type 0 where
  pub short : BothShort a b
  pub feed : Feed
  pub how : P feed
  pub left : Holds a b l r l' feed

-- ---- what was written: the contracts of the writers
pub record WroteTimes (w out : List ℕ) (r : Result ℕ Unwritten) (out' : List ℕ) : Type 0 where
  pub said : by_number r ≡ written_times w (length out)
  pub held : out' ≡ held_after r out (write_times (time_rows_in w))

-- `stops` is how many stops the stop times have named
pub record WroteTransfers (w : List ℕ) (stops : ℕ) (out : List ℕ) (r : Result ℕ Unwritten) (out' : List ℕ) : Type 0 where
  pub said : by_number r ≡ written_transfers w stops (length out)
  pub held : out' ≡ held_after r out (write_transfers (transfer_rows_in w))

-- a text that is written where the buffer takes it, and refused as full, with 15, where it does not
pub data IfRoom (text : List ℕ) (room : ℕ) : Result ℕ Unwritten → Type 0 where
  room_enough : length text ≤ room → IfRoom text room (Ok (length text))
  room_short : room < length text → IfRoom text room (Err Full)

-- how many stops and trips the words name
unfoldable pub stops_in : List ℕ → ℕ
stops_in w = (after_times none_seen (time_rows_in w)).stops

unfoldable pub trips_in : List ℕ → ℕ
trips_in w = (after_times none_seen (time_rows_in w)).trips

unfoldable pub stops_in_both : List ℕ → List ℕ → ℕ
stops_in_both w x = after_transfers (stops_in w) (transfer_rows_in x)

-- ---- "reading that gives the same tables"
-- the words w and x were read, to the end
pub record GivesBack (w x : List ℕ) (r : Told) (l : LentFeed) : Type 0 where
  pub ended : AnswersWith r 0 0 0
  pub stops_back : r.stops ≡ stops_in_both w x
  pub split_back : r.split ≡ stops_in w
  pub trips_back : r.trips ≡ trips_in w
  pub times_counted : r.times ≡ length w / 4
  pub transfers_counted : r.transfers ≡ length x / 4
  pub times_back : time_words_read r l ≡ w
  pub transfers_back : transfer_words_read r l ≡ x

-- what is read later is what was read before
pub record SameTables (r : Told) (l : LentFeed) (r' : Told) (l' : LentFeed) : Type 0 where
  pub ended : AnswersWith r' 0 0 0
  pub same_stops : r'.stops ≡ r.stops
  pub same_split : r'.split ≡ r.split
  pub same_trips : r'.trips ≡ r.trips
  pub same_times : r'.times ≡ r.times
  pub same_transfers : r'.transfers ≡ r.transfers
  pub same_time_rows : time_words_read r' l' ≡ time_words_read r l
  pub same_transfer_rows : transfer_words_read r' l' ≡ transfer_words_read r l

-- as much is lent
pub record SameSizes (l l' : LentFeed) : Type 0 where
  pub times_size : length l'.times ≡ length l.times
  pub transfers_size : length l'.transfers ≡ length l.transfers
  pub stops_size : length l'.stops ≡ length l.stops
  pub trips_size : length l'.trips ≡ length l.trips

-- all that document 01 allows has room
pub record FullSize (l : LentFeed) : Type 0 where
  pub times_room : 4 * MOST_STOP_TIMES ≤ length l.times
  pub transfers_room : 4 * MOST_TRANSFERS ≤ length l.transfers
  pub stops_room : 4 * MOST_STOPS ≤ length l.stops
  pub trips_room : 4 * MOST_TRIPS ≤ length l.trips

-- the rows that were read, and what the answer says of them
pub record InOrderRead (l : LentFeed) (r : Told) (l' : LentFeed) : Type 0 where
  pub orderly : Orderly (feed_room l) (time_rows_in (time_words_read r l')) (transfer_rows_in (transfer_words_read r l'))
  pub times_long : length (time_words_read r l') ≡ 4 * r.times
  pub transfers_long : length (transfer_words_read r l') ≡ 4 * r.transfers
  pub stops_named : r.stops ≡ stops_in_both (time_words_read r l') (transfer_words_read r l')
  pub split_named : r.split ≡ stops_in (time_words_read r l')
  pub trips_named : r.trips ≡ trips_in (time_words_read r l')
  pub stops_fit : r.stops ≤ (feed_room l).stops
  pub trips_fit : r.trips ≤ (feed_room l).trips
  pub times_fit : r.times ≤ (feed_room l).times
  pub transfers_fit : r.transfers ≤ (feed_room l).transfers

-- a feed that says what the lines say, with every name once
pub record RightFeed (room : Room) (a b : List ℕ) (f : Feed) : Type 0 where
  pub time_lines : SaysTimes f (lines (without_mark a))
  pub transfer_lines : SaysTransfers f (lines (without_mark b))
  pub rows_orderly : Orderly room f.times f.transfers
  pub stops_once : Once f.stops
  pub trips_once : Once f.trips
  pub in_room : InRoom room f

-- two readings of the same files into the same words; where a name's text stands in its file is left open
pub record SameRead (a b : List ℕ) (l : LentFeed) (r : Told) (l' : LentFeed) (q : Told) (k' : LentFeed) : Type 0 where
  pub same_answer : r ≡ q
  pub same_times_table : l'.times ≡ k'.times
  pub same_transfers_table : l'.transfers ≡ k'.transfers
  pub same_stop_names : names_in a b (stop_book l r) l'.stops ≡ names_in a b (stop_book l q) k'.stops
  pub same_trip_names : names_in a a (trip_book l r) l'.trips ≡ names_in a a (trip_book l q) k'.trips
  pub same_stop_book : SameBook (stop_book l r) l'.stops k'.stops
  pub same_trip_book : SameBook (trip_book l r) l'.trips k'.trips
