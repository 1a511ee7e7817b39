-- What the reader of transfers.txt answers and leaves, and what it must be lent.
use Rattle.std.specs.Prelude.{ℕ, ◌+◌, ◌*◌, ◌≤◌, ◌≡◌, List, [], length, drop, Result, ⊤}
use Rattle.base.specs.Put.{with_bytes}
use Rattle.csv_text.specs.Lines.{lines}
use Rattle.names.specs.declared.Shelf.{Shelf}
use Rattle.names.specs.Book.{Book, names_in}
use Rattle.names.specs.Booked.{Booked}
use Rattle.feed.specs.declared.Room.{Room}
use Rattle.feed.specs.declared.TransferColumns.{TransferColumns}
use Rattle.feed.specs.declared.Unread.{Unread}
use Rattle.feed.specs.Feed.{Feed, Got}
use Rattle.feed.specs.Ending.{ending_of}
use Rattle.feed.specs.Rows.{flat_transfers}
use Rattle.feed.specs.Transfers.{transfers_from, read_transfers}
use Rattle.feed.specs.Reading.{without_mark}
use Rattle.gtfs_transfers.specs.declared.TransfersTold.{TransfersTold}
use Rattle.gtfs_paths.specs.declared.PathsReached.{PathsReached}

-- ---- the answer
unfoldable pub transfers_told : Got → TransfersTold
transfers_told g =
    record { stops = length g.feed.stops; transfers = length g.feed.transfers; ending = ending_of g.end }

unfoldable pub paths_told_at : PathsReached → Result ⊤ Unread → TransfersTold
paths_told_at at e = record { stops = at.stops; transfers = at.transfers; ending = e }

-- ---- what is read
-- a feed of stops that have a name, and nothing else yet: trips and stop times play no part here
abbrev pub stops_only : List (List ℕ) → Feed
stops_only names = record { stops = names; trips = []; times = []; transfers = [] }

-- the book in which so many stops of the first file are named; and the same book when the second begins
abbrev pub first_shelf : Room → ℕ → Shelf
first_shelf room counted = record { cap = room.stops; split = 0; count = counted }

abbrev pub turned_shelf : Room → ℕ → Shelf
turned_shelf room counted = record { cap = room.stops; split = counted; count = counted }

-- of the second file, where the book holds the stops of the first
unfoldable pub transfers_read : Room → ℕ → List ℕ → List ℕ → List ℕ → Got
transfers_read room counted first second stops =
    read_transfers room (lines (without_mark second)) (stops_only (names_in first first (first_shelf room counted) stops))

-- of its rows
unfoldable pub rows_read : Room → TransferColumns → ℕ → ℕ → List ℕ → List ℕ → List ℕ → Got
rows_read room c counted next first second stops =
    transfers_from c room 2 (lines (drop next second)) (stops_only (names_in first second (turned_shelf room counted) stops))

-- ---- what is left: the rows in front of the table, the names in the book; behind them all is as it was
unfoldable pub paths_left : Room → ℕ → Got → Shelf
paths_left room counted g = record { cap = room.stops; split = counted; count = length g.feed.stops }

pub record TransfersLeft (room : Room) (counted : ℕ) (first second : List ℕ) (g : Got) (p s p' s' : List ℕ) : Type 0 where
  pub paths_left_lem : p' ≡ with_bytes p 0 (flat_transfers g.feed.transfers)
  pub stops_left_lem : Booked first second (paths_left room counted g) s s' g.feed.stops

-- ---- what must be lent: the table has its room, and the file's places fit 32 bits
pub record PathsLent (room : Room) (counted : ℕ) (first second paths stops : List ℕ) : Type 0 where
  pub book : Book first first (first_shelf room counted) stops
  pub short : length second ≤ 4_294_967_295
  pub rows : 4 * room.transfers ≤ length paths

pub record PathsBegin (room : Room) (counted next : ℕ) (first second paths stops : List ℕ) : Type 0 where
  pub book : Book first second (turned_shelf room counted) stops
  pub short : length second ≤ 4_294_967_295
  pub rows : 4 * room.transfers ≤ length paths
  pub headed : 1 ≤ next
  pub inside : next ≤ length second + 1
