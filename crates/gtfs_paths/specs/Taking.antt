-- What becomes of a row of transfers.txt: the numbers of its two stops where it is taken, or that there is no room.
use Rattle.std.specs.Prelude.{ℕ, ◌+◌, ◌*◌, ◌≤◌, ◌<◌, ◌≡◌, cond, List, [], ◌∷◌, ◌++◌, ltb, length, Option, None, Some}
use Rattle.base.specs.Put.{with_bytes}
use Rattle.columns.specs.Picks.{text_at, Spanned}
use Rattle.names.specs.declared.Shelf.{Shelf}
use Rattle.names.specs.Book.{Book, names_in}
use Rattle.names.specs.Booked.{Booked}
use Rattle.feed.specs.declared.Room.{Room}
use Rattle.feed.specs.declared.TransferSpans.{TransferSpans}
use Rattle.feed.specs.Feed.{Feed, named, number_of}
use Rattle.feed.specs.Transfers.{TransferLine}
use Rattle.feed.specs.Orderly.{seen_after}
use Rattle.gtfs_rows.specs.Named.{names_with}
use Rattle.gtfs_paths.specs.declared.PathsReached.{PathsReached}
use Rattle.gtfs_paths.specs.declared.PathNumbers.{PathNumbers}
use Rattle.gtfs_paths.specs.declared.PathEntry.{PathEntry}

-- a row between stops of these numbers, while there is room
unfoldable pub path_by : Room → ℕ → ℕ → ℕ → Option PathNumbers
path_by room rows from to =
    cond (ltb from room.stops) (cond (ltb to room.stops) (cond (ltb rows room.transfers) (Some (record { from = from; to = to })) None) None) None

-- behind so many rows, where these stops are named
unfoldable pub path_plan : Room → List (List ℕ) → ℕ → List ℕ → List ℕ → Option PathNumbers
path_plan room names rows t u = path_by room rows (number_of names t) (number_of (named names t) u)

-- a feed with one row more, by the numbers of its stops
unfoldable pub with_transfer : Feed → TransferLine → ℕ → ℕ → Feed
with_transfer f l from to =
    record {
      stops = names_with (names_with f.stops from l.from) to l.to;
      trips = f.trips;
      times = f.times;
      transfers = f.transfers ++ (record { from = from; to = to; kind = l.kind; span = l.span } ∷ []);
    }

-- the book of the stops of both files
abbrev pub path_shelf : Room → PathsReached → Shelf
path_shelf room at = record { cap = room.stops; split = at.split; count = at.stops }

-- the names with those of an entry
abbrev pub path_named : List ℕ → List ℕ → Room → PathsReached → PathEntry → List ℕ → List (List ℕ)
path_named first second room at e stops =
    names_with (names_with (names_in first second (path_shelf room at) stops) e.from (text_at second e.line.from)) e.to
    (text_at second e.line.to)

-- the words of its row
abbrev pub path_words : PathEntry → List ℕ
path_words e = e.from ∷ e.to ∷ e.line.kind ∷ e.line.span ∷ []

-- how far a row brings it
unfoldable pub after_path : PathsReached → PathEntry → PathsReached
after_path at e =
    record { split = at.split; stops = seen_after (seen_after at.stops e.from) e.to; transfers = at.transfers + 1 }

-- two stops for which the book has room
pub record PathNames (first second : List ℕ) (room : Room) (at : PathsReached) (e : PathEntry) (stops : List ℕ) : Type 0 where
  pub book : Book first second (path_shelf room at) stops
  pub near_text : Spanned second e.line.from
  pub far_text : Spanned second e.line.to
  pub short : length second ≤ 4_294_967_295
  pub turned : at.split ≤ at.stops
  pub near_next : e.from ≤ at.stops
  pub far_next : e.to ≤ seen_after at.stops e.from
  pub near_fits : e.from < room.stops
  pub far_fits : e.to < room.stops

-- and a row for which the table has
pub record PathEnters (first second : List ℕ) (room : Room) (at : PathsReached) (e : PathEntry) (paths stops : List ℕ) : Type 0 where
  pub named_both : PathNames first second room at e stops
  pub row_fits : at.transfers < room.transfers
  pub rows : 4 * room.transfers ≤ length paths
  pub row_next : at.transfers < 4_294_967_295

-- ---- a line whose row is taken or refused
pub record PathTakeable (first second : List ℕ) (room : Room) (at : PathsReached) (v : TransferSpans) (paths stops : List ℕ) : Type 0 where
  pub book : Book first second (path_shelf room at) stops
  pub near_text : Spanned second v.from
  pub far_text : Spanned second v.to
  pub short : length second ≤ 4_294_967_295
  pub turned : at.split ≤ at.stops
  pub rows : 4 * room.transfers ≤ length paths
  pub row_next : at.transfers < 4_294_967_295

-- the plan of a line, by the book
unfoldable pub path_in : List ℕ → List ℕ → Room → PathsReached → TransferSpans → List ℕ → Option PathNumbers
path_in first second room at v stops =
    path_plan room (names_in first second (path_shelf room at) stops) at.transfers (text_at second v.from) (text_at second v.to)

unfoldable pub path_took_by : PathsReached → TransferSpans → Option PathNumbers → Option PathsReached
path_took_by at v (Some n) = Some (after_path at (record { from = n.from; to = n.to; line = v }))
path_took_by at v None = None

-- the words of a row go behind the others, new names behind the names; nothing is touched where there is no row
abbrev pub PathLeftBy : List ℕ → List ℕ → Room → PathsReached → TransferSpans → Option PathNumbers → List ℕ → List ℕ → List ℕ → List ℕ → Type 0
PathLeftBy first second room at v (Some n) p s p' s' =
    (p' ≡ with_bytes p (4 * at.transfers) (path_words (record { from = n.from; to = n.to; line = v })))
    × Booked first second (path_shelf room (after_path at (record { from = n.from; to = n.to; line = v }))) s s'
    (path_named first second room at (record { from = n.from; to = n.to; line = v }) s)
PathLeftBy first second room at v None p s p' s' = (p' ≡ p) × (s' ≡ s)

pub record PathTakes (first second : List ℕ) (room : Room) (at : PathsReached) (v : TransferSpans) (r : Option PathsReached) (p s p' s' : List ℕ) : Type 0 where
  pub said : r ≡ path_took_by at v (path_in first second room at v s)
  pub left : PathLeftBy first second room at v (path_in first second room at v s) p s p' s'
