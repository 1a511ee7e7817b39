-- stop_times.txt: "Rows of a trip stand together with rising stop_sequence. A missing time .. makes a bad line."
use Rattle.std.specs.Prelude.{ℕ, suc, ◌-◌, Bool, true, false, cond, ◌&&◌, List, [], ◌∷◌, ◌++◌, ltb, leb, eqb, length, get_or}
use Rattle.std.specs.Prelude.{Option, None, Some}
use Rattle.csv_text.specs.There.{if_there}
use Rattle.csv_text.specs.Texts.{same_text}
use Rattle.csv_text.specs.Fields.{fields}
use Rattle.columns.specs.Picks.{is_named}
use Rattle.numbers.specs.Decimal.{decimal}
use Rattle.numbers.specs.Clock.{clock}
use Rattle.feed.specs.declared.Room.{Room}
use Rattle.feed.specs.declared.TimesColumns.{TimesColumns}
use Rattle.feed.specs.Columns.{times_columns}
use Rattle.feed.specs.Feed.{Feed, empty_feed, named, number_of, done, bad_times, full, Got}

-- a line's values
pub record TimeLine : Type 0 where
  pub trip : List ℕ
  pub stop : List ℕ
  pub arrival : ℕ
  pub departure : ℕ
  pub sequence : ℕ

-- an id is any text that is not empty
unfoldable pub is_id : List ℕ → Bool
is_id [] = false
is_id (x ∷ t) = true

-- none for a line whose form is bad: another number of fields than the header, an id that is empty, a time or a sequence that is none
unfoldable pub time_values : TimesColumns → List (List ℕ) → Option TimeLine
time_values c ts =
    cond (eqb (length ts) c.count && is_id (get_or ts c.trip []) && is_id (get_or ts c.stop []))
    (if_there (clock (get_or ts c.arrival [])) (λ a.
    if_there (clock (get_or ts c.departure [])) (λ d.
    if_there (decimal (get_or ts c.sequence [])) (λ q.
    Some (record { trip = get_or ts c.trip []; stop = get_or ts c.stop []; arrival = a; departure = d; sequence = q })))))
    None

unfoldable pub time_line : TimesColumns → List ℕ → Option TimeLine
time_line c l = if_there (fields l) (time_values c)

-- a row taken; or a bad line; or a full table
pub data Took : Type 0 where
  kept : Feed → Took
  bad : Took
  out_of_room : Took

-- the row behind the others; `trips` has its trip last
unfoldable pub entered : Room → TimeLine → List (List ℕ) → Feed → Took
entered room l trips f =
    cond (leb (length trips) room.trips && leb (length (named f.stops l.stop)) room.stops && ltb (length f.times) room.times)
    (kept
    (record {
      stops = named f.stops l.stop;
      trips = trips;
      times = f.times
          ++ (record { trip = length trips - 1; stop = number_of f.stops l.stop; arrival = l.arrival; departure = l.departure } ∷ []);
      transfers = f.transfers;
    }))
    out_of_room

-- whether the last row is of this trip
unfoldable pub is_last : List (List ℕ) → List ℕ → Bool
is_last trips t = ltb 0 (length trips) && same_text t (get_or trips (length trips - 1) [])

-- "Rows of a trip stand together with rising stop_sequence": `last` is the sequence of the row before
unfoldable pub take_time : Room → TimeLine → Feed → ℕ → Took
take_time room l f last =
    cond (is_last f.trips l.trip)
    (cond (ltb last l.sequence) (entered room l f.trips f) bad)
    (cond (is_named l.trip f.trips) bad (entered room l (f.trips ++ (l.trip ∷ [])) f))

-- line k and those behind it; the first line that is refused ends the reading
unfoldable pub times_from : TimesColumns → Room → ℕ → List (List ℕ) → Feed → ℕ → Got
times_from c room k [] f last = record { feed = f; end = done }
times_from c room k (l ∷ ls) f last =
    elim (time_line c l) [
      | None ↦ record { feed = f; end = bad_times k }
      | Some x ↦
          elim (take_time room x f last) [
            | kept g ↦ times_from c room (suc k) ls g x.sequence
            | bad ↦ record { feed = f; end = bad_times k }
            | out_of_room ↦ record { feed = f; end = full }
          ]
    ]

unfoldable pub times_under : Room → Option TimesColumns → List (List ℕ) → Got
times_under room None ls = record { feed = empty_feed; end = bad_times 1 }
times_under room (Some c) ls = times_from c room 2 ls empty_feed 0

-- line 1 is the header; a file without one has a bad line 1
unfoldable pub read_times : Room → List (List ℕ) → Got
read_times room [] = record { feed = empty_feed; end = bad_times 1 }
read_times room (h ∷ ls) = times_under room (if_there (fields h) times_columns) ls
