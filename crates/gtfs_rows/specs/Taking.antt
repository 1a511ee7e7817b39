-- What becomes of a row of stop_times.txt: the numbers of its trip and its stop where it is taken, or why it is not.
use Rattle.std.specs.Prelude.{◌≡◌, ℕ, ◌+◌, ◌-◌, ◌*◌, ◌≤◌, ◌<◌, cond, List, [], ◌∷◌, ◌++◌, ltb, length, Result, Ok, Err}
use Rattle.base.specs.Put.{with_bytes}
use Rattle.columns.specs.Picks.{is_named, text_at, Spanned}
use Rattle.names.specs.declared.Shelf.{Shelf}
use Rattle.names.specs.Book.{Book, names_in}
use Rattle.names.specs.Booked.{Booked}
use Rattle.feed.specs.declared.Room.{Room}
use Rattle.feed.specs.declared.TimeSpans.{TimeSpans}
use Rattle.feed.specs.Spans.{time_at}
use Rattle.feed.specs.Feed.{Feed, number_of}
use Rattle.feed.specs.Times.{TimeLine, is_last}
use Rattle.feed.specs.Orderly.{seen_after}
use Rattle.gtfs_rows.specs.declared.times.Trip.{Trip}
use Rattle.gtfs_rows.specs.declared.times.Trip.TheVariants.{Last, New, Gone}
use Rattle.gtfs_rows.specs.declared.times.Numbers.{Numbers}
use Rattle.gtfs_rows.specs.declared.times.Fault.{Fault}
use Rattle.gtfs_rows.specs.declared.times.Fault.TheVariants.{Bad, Full}
use Rattle.gtfs_rows.specs.declared.times.Reached.{Reached}
use Rattle.gtfs_rows.specs.declared.times.Entry.{Entry}
use Rattle.gtfs_rows.specs.Named.{names_with}

-- a trip is that of the row before, a new one, or one that stood before another
unfoldable pub trip_is : List (List ℕ) → List ℕ → Trip
trip_is names t = cond (is_last names t) Last (cond (is_named t names) Gone New)

-- a feed with one row more, by the numbers of its trip and its stop
unfoldable pub with_time : Feed → TimeLine → ℕ → ℕ → Feed
with_time f l trip stop =
    record {
      stops = names_with f.stops stop l.stop;
      trips = names_with f.trips trip l.trip;
      times = f.times ++ (record { trip = trip; stop = stop; arrival = l.arrival; departure = l.departure } ∷ []);
      transfers = f.transfers;
    }

abbrev pub numbers : ℕ → ℕ → Numbers
numbers trip stop = record { trip = trip; stop = stop }

-- a row of this trip and this stop, while there is room
unfoldable pub plan_by : Room → ℕ → ℕ → ℕ → Result Numbers Fault
plan_by room times trip stop =
    cond (ltb trip room.trips) (cond (ltb stop room.stops) (cond (ltb times room.times) (Ok (numbers trip stop)) (Err Full)) (Err Full)) (Err Full)

-- whose trip it is comes before the room
unfoldable pub plan_under : Room → Reached → ℕ → ℕ → Trip → Result Numbers Fault
plan_under room at sequence stop Last = cond (ltb at.last sequence) (plan_by room at.times (at.trips - 1) stop) (Err Bad)
plan_under room at sequence stop New = plan_by room at.times at.trips stop
plan_under room at sequence stop Gone = Err Bad

-- of a line, where these stops and trips are named
unfoldable pub plan_of : Room → TimeLine → List (List ℕ) → List (List ℕ) → Reached → Result Numbers Fault
plan_of room l stops trips at = plan_under room at l.sequence (number_of stops l.stop) (trip_is trips l.trip)

-- ---- the books of the first file
abbrev pub stop_shelf : Room → Reached → Shelf
stop_shelf room at = record { cap = room.stops; split = 0; count = at.stops }

abbrev pub trip_shelf : Room → Reached → Shelf
trip_shelf room at = record { cap = room.trips; split = 0; count = at.trips }

-- how far a row brings them
unfoldable pub after_entry : Reached → Entry → Reached
after_entry at e =
    record { stops = seen_after at.stops e.stop; trips = seen_after at.trips e.trip; times = at.times + 1; last = e.line.sequence }

-- an entry for which there is room
pub record Enters (bytes : List ℕ) (room : Room) (at : Reached) (e : Entry) (times stops trips : List ℕ) : Type 0 where
  pub stop_book : Book bytes bytes (stop_shelf room at) stops
  pub trip_book : Book bytes bytes (trip_shelf room at) trips
  pub stop_text : Spanned bytes e.line.stop
  pub trip_text : Spanned bytes e.line.trip
  pub short : length bytes ≤ 4_294_967_295
  pub stop_next : e.stop ≤ at.stops
  pub trip_next : e.trip ≤ at.trips
  pub stop_fits_lem : e.stop < room.stops
  pub trip_fits_lem : e.trip < room.trips
  pub row_fits : at.times < room.times
  pub rows : 4 * room.times ≤ length times
  pub row_next : at.times < 4_294_967_295

-- ---- a line whose row is taken or refused
pub record Takeable (bytes : List ℕ) (room : Room) (at : Reached) (v : TimeSpans) (times stops trips : List ℕ) : Type 0 where
  pub stop_book : Book bytes bytes (stop_shelf room at) stops
  pub trip_book : Book bytes bytes (trip_shelf room at) trips
  pub stop_text : Spanned bytes v.stop
  pub trip_text : Spanned bytes v.trip
  pub short : length bytes ≤ 4_294_967_295
  pub rows : 4 * room.times ≤ length times
  pub small : room.times ≤ 4_294_967_295

-- the plan of a line, by the books
unfoldable pub plan_in : List ℕ → Room → Reached → TimeSpans → List ℕ → List ℕ → Result Numbers Fault
plan_in b room at v stops trips =
    plan_of room (time_at b v) (names_in b b (stop_shelf room at) stops) (names_in b b (trip_shelf room at) trips) at

unfoldable pub took_by : Reached → TimeSpans → Result Numbers Fault → Result Reached Fault
took_by at v (Ok n) = Ok (after_entry at (record { trip = n.trip; stop = n.stop; line = v }))
took_by at v (Err f) = Err f

-- the words of a row go behind the others, a new name behind the names; nothing is touched where there is no row
abbrev pub LeftBy : List ℕ → Room → Reached → TimeSpans → Result Numbers Fault → List ℕ → List ℕ → List ℕ → List ℕ → List ℕ → List ℕ → Type 0
LeftBy b room at v (Ok n) x s t x' s' t' =
    (x' ≡ with_bytes x (4 * at.times) (n.trip ∷ n.stop ∷ v.arrival ∷ v.departure ∷ []))
    × Booked b b (stop_shelf room (after_entry at (record { trip = n.trip; stop = n.stop; line = v }))) s s'
    (names_with (names_in b b (stop_shelf room at) s) n.stop (text_at b v.stop))
    × Booked b b (trip_shelf room (after_entry at (record { trip = n.trip; stop = n.stop; line = v }))) t t'
    (names_with (names_in b b (trip_shelf room at) t) n.trip (text_at b v.trip))
LeftBy b room at v (Err f) x s t x' s' t' = (x' ≡ x) × (s' ≡ s) × (t' ≡ t)

pub record Takes (b : List ℕ) (room : Room) (at : Reached) (v : TimeSpans) (r : Result Reached Fault) (x s t x' s' t' : List ℕ) : Type 0 where
  pub said : r ≡ took_by at v (plan_in b room at v s t)
  pub left : LeftBy b room at v (plan_in b room at v s t) x s t x' s' t'
