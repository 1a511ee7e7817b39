-- "14 with its line for a bad line, 15 for a table that is full": the lines before are taken one by one, and the line that ends the reading is
-- refused for one of these reasons.
use Rattle.std.specs.Prelude.{ℕ, suc, ◌+◌, ◌≤◌, ◌<◌, ◌≡◌, List, [], ◌∷◌, ◌++◌, length, get_or}
use Rattle.std.specs.Prelude.{None, Some}
use Rattle.csv_text.specs.Lines.{lines}
use Rattle.csv_text.specs.Fields.{fields}
use Rattle.numbers.specs.Decimal.{decimal}
use Rattle.numbers.specs.Clock.{clock}
use Rattle.feed.specs.declared.Room.{Room}
use Rattle.feed.specs.declared.TimesColumns.{TimesColumns}
use Rattle.feed.specs.declared.TransferColumns.{TransferColumns}
use Rattle.feed.specs.Feed.{Feed, empty_feed, done, bad_times, bad_transfers, full, Got}
use Rattle.feed.specs.Times.{TimeLine, time_line, kept, take_time}
use Rattle.feed.specs.Transfers.{TransferLine, UNSTATED, transfer_line, take_transfer}
use Rattle.feed.specs.Reading.{without_mark}
use Rattle.feed.specs.Held.{Unnamed}
use Rattle.feed.specs.Heads.{TimesHead, BadTimesHeader, TransfersHead, BadTransfersHeader}

-- ---- a line of stop_times.txt
-- lines that are taken lead from a feed, and the sequence of the row before, to a feed and a sequence
pub data TimesTaken (c : TimesColumns) (room : Room) : List (List ℕ) → Feed → ℕ → Feed → ℕ → Type 0 where
  no_times : {f : Feed} {q : ℕ} → TimesTaken c room [] f q f q
  times_more : {l : List ℕ} {ls : List (List ℕ)} {x : TimeLine} {f g f' : Feed} {q q' : ℕ} → time_line c l ≡ Some x → take_time room x f q ≡ kept g
      → TimesTaken c room ls g x.sequence f' q' → TimesTaken c room (l ∷ ls) f q f' q'

-- why a line is bad, behind the feed f whose last row has the sequence q
pub data BadTime (c : TimesColumns) (f : Feed) (q : ℕ) (l : List ℕ) : Type 0 where
  wrong_fields : fields l ≡ None → BadTime c f q l
  other_count : {ts : List (List ℕ)} → fields l ≡ Some ts → (length ts ≡ c.count → ⊥) → BadTime c f q l
  no_trip : {ts : List (List ℕ)} → fields l ≡ Some ts → get_or ts c.trip [] ≡ [] → BadTime c f q l
  no_stop : {ts : List (List ℕ)} → fields l ≡ Some ts → get_or ts c.stop [] ≡ [] → BadTime c f q l
  no_arrival : {ts : List (List ℕ)} → fields l ≡ Some ts → clock (get_or ts c.arrival []) ≡ None → BadTime c f q l
  no_departure : {ts : List (List ℕ)} → fields l ≡ Some ts → clock (get_or ts c.departure []) ≡ None → BadTime c f q l
  no_sequence : {ts : List (List ℕ)} → fields l ≡ Some ts → decimal (get_or ts c.sequence []) ≡ None → BadTime c f q l
  -- the row before is of its trip, and the sequence does not rise
  not_rising : {ts : List (List ℕ)} {n v : ℕ} → fields l ≡ Some ts → length f.trips ≡ suc n → get_or f.trips n [] ≡ get_or ts c.trip []
      → decimal (get_or ts c.sequence []) ≡ Some v → v ≤ q → BadTime c f q l
  -- its trip stood before another
  comes_back : {ts : List (List ℕ)} {i : ℕ} → fields l ≡ Some ts → suc i < length f.trips → get_or f.trips i [] ≡ get_or ts c.trip []
      → BadTime c f q l

-- a line that keeps the order: the next of the trip of the row before, or the first of a trip
pub data InOrder (f : Feed) (q : ℕ) (x : TimeLine) : Type 0 where
  goes_on : {n : ℕ} → length f.trips ≡ suc n → get_or f.trips n [] ≡ x.trip → q < x.sequence → InOrder f q x
  begins : Unnamed f.trips x.trip → InOrder f q x

-- which table has no room for it
pub data NoTimeRoom (room : Room) (f : Feed) (x : TimeLine) : Type 0 where
  trips_full : Unnamed f.trips x.trip → room.trips ≤ length f.trips → NoTimeRoom room f x
  stops_full : Unnamed f.stops x.stop → room.stops ≤ length f.stops → NoTimeRoom room f x
  times_full : room.times ≤ length f.times → NoTimeRoom room f x

-- ---- stop_times.txt, as its lines: what is read, and how it ends
pub data TimesDone (room : Room) : List (List ℕ) → Feed → Type 0 where
  times_done : {h : List ℕ} {ls : List (List ℕ)} {c : TimesColumns} {f : Feed} {q : ℕ} → TimesHead h c
      → TimesTaken c room ls empty_feed 0 f q → TimesDone room (h ∷ ls) f

pub data TimesBad (room : Room) : List (List ℕ) → ℕ → Feed → Type 0 where
  no_times_header : TimesBad room [] 1 empty_feed
  bad_times_header : {h : List ℕ} {ls : List (List ℕ)} → BadTimesHeader h → TimesBad room (h ∷ ls) 1 empty_feed
  bad_time : {h : List ℕ} {ls : List (List ℕ)} (l : List ℕ) (rest : List (List ℕ)) {c : TimesColumns} {f : Feed} {q : ℕ}
      → TimesHead h c → TimesTaken c room ls empty_feed 0 f q → BadTime c f q l → TimesBad room (h ∷ (ls ++ (l ∷ rest))) (2 + length ls) f

pub data TimesFull (room : Room) : List (List ℕ) → Feed → Type 0 where
  full_time : {h : List ℕ} {ls : List (List ℕ)} (l : List ℕ) (rest : List (List ℕ)) {c : TimesColumns} {f : Feed} {q : ℕ} {x : TimeLine}
      → TimesHead h c → TimesTaken c room ls empty_feed 0 f q → time_line c l ≡ Some x → InOrder f q x
      → NoTimeRoom room f x → TimesFull room (h ∷ (ls ++ (l ∷ rest))) f

-- ---- a line of transfers.txt
pub data TransfersTaken (c : TransferColumns) (room : Room) : List (List ℕ) → Feed → Feed → Type 0 where
  no_transfers : {f : Feed} → TransfersTaken c room [] f f
  transfers_more : {l : List ℕ} {ls : List (List ℕ)} {x : TransferLine} {f g f' : Feed} → transfer_line c l ≡ Some x
      → take_transfer room x f ≡ Some g → TransfersTaken c room ls g f' → TransfersTaken c room (l ∷ ls) f f'

pub data BadTransfer (c : TransferColumns) (l : List ℕ) : Type 0 where
  wrong_fields : fields l ≡ None → BadTransfer c l
  other_count : {ts : List (List ℕ)} → fields l ≡ Some ts → (length ts ≡ c.count → ⊥) → BadTransfer c l
  no_from : {ts : List (List ℕ)} → fields l ≡ Some ts → get_or ts c.from [] ≡ [] → BadTransfer c l
  no_to : {ts : List (List ℕ)} → fields l ≡ Some ts → get_or ts c.to [] ≡ [] → BadTransfer c l
  -- an empty type is 0
  no_type : {ts : List (List ℕ)} → fields l ≡ Some ts → (get_or ts c.kind [] ≡ [] → ⊥) → decimal (get_or ts c.kind []) ≡ None → BadTransfer c l
  other_type : {ts : List (List ℕ)} {k : ℕ} → fields l ≡ Some ts → decimal (get_or ts c.kind []) ≡ Some k → 5 < k → BadTransfer c l
  no_span : {ts : List (List ℕ)} → fields l ≡ Some ts → decimal (get_or ts c.kind []) ≡ Some 2 → decimal (get_or ts c.span []) ≡ None
      → BadTransfer c l
  long_span : {ts : List (List ℕ)} {x : ℕ} → fields l ≡ Some ts → decimal (get_or ts c.kind []) ≡ Some 2 → decimal (get_or ts c.span []) ≡ Some x
      → UNSTATED ≤ x → BadTransfer c l

-- which table has no room for it: the stops for one that is new, or for two; the transfers
pub data NoTransferRoom (room : Room) (f : Feed) (x : TransferLine) : Type 0 where
  from_full : Unnamed f.stops x.from → room.stops ≤ length f.stops → NoTransferRoom room f x
  to_full : Unnamed f.stops x.to → room.stops ≤ length f.stops → NoTransferRoom room f x
  both_full : Unnamed f.stops x.from → Unnamed f.stops x.to → (x.from ≡ x.to → ⊥) → room.stops ≤ suc (length f.stops)
      → NoTransferRoom room f x
  transfers_full : room.transfers ≤ length f.transfers → NoTransferRoom room f x

-- ---- transfers.txt, as its lines, behind the feed of stop_times.txt
pub data TransfersDone (room : Room) (g : Feed) : List (List ℕ) → Feed → Type 0 where
  transfers_done : {h : List ℕ} {ls : List (List ℕ)} {c : TransferColumns} {f : Feed} → TransfersHead h c
      → TransfersTaken c room ls g f → TransfersDone room g (h ∷ ls) f

pub data TransfersBad (room : Room) (g : Feed) : List (List ℕ) → ℕ → Feed → Type 0 where
  no_transfers_header : TransfersBad room g [] 1 g
  bad_transfers_header : {h : List ℕ} {ls : List (List ℕ)} → BadTransfersHeader h → TransfersBad room g (h ∷ ls) 1 g
  bad_transfer : {h : List ℕ} {ls : List (List ℕ)} (l : List ℕ) (rest : List (List ℕ)) {c : TransferColumns} {f : Feed}
      → TransfersHead h c → TransfersTaken c room ls g f → BadTransfer c l → TransfersBad room g (h ∷ (ls ++ (l ∷ rest))) (2 + length ls) f

pub data TransfersFull (room : Room) (g : Feed) : List (List ℕ) → Feed → Type 0 where
  full_transfer : {h : List ℕ} {ls : List (List ℕ)} (l : List ℕ) (rest : List (List ℕ)) {c : TransferColumns} {f : Feed} {x : TransferLine}
      → TransfersHead h c → TransfersTaken c room ls g f → transfer_line c l ≡ Some x → NoTransferRoom room f x
      → TransfersFull room g (h ∷ (ls ++ (l ∷ rest))) f

-- ---- both files
-- 14 in stop_times.txt, at line k; what is left is f
abbrev pub BadInTimes : Room → List ℕ → ℕ → Feed → Type 0
BadInTimes room a k f = TimesBad room (lines (without_mark a)) k f

-- 14 in transfers.txt: stop_times.txt was read to its end
pub data BadInTransfers (room : Room) (a b : List ℕ) (k : ℕ) (f : Feed) : Type 0 where
  bad_in_transfers : {g : Feed} → TimesDone room (lines (without_mark a)) g → TransfersBad room g (lines (without_mark b)) k f
      → BadInTransfers room a b k f

-- 15
pub data FullAt (room : Room) (a b : List ℕ) (f : Feed) : Type 0 where
  full_in_times : TimesFull room (lines (without_mark a)) f → FullAt room a b f
  full_in_transfers : {g : Feed} → TimesDone room (lines (without_mark a)) g → TransfersFull room g (lines (without_mark b)) f → FullAt room a b f

-- every line of both was taken
pub data AllTaken (room : Room) (a b : List ℕ) (f : Feed) : Type 0 where
  all_taken : {g : Feed} → TimesDone room (lines (without_mark a)) g → TransfersDone room g (lines (without_mark b)) f → AllTaken room a b f

-- what both files give: one of these
pub data Ends (room : Room) (a b : List ℕ) : Got → Type 0 where
  ends_done : {f : Feed} → AllTaken room a b f → Ends room a b (record { feed = f; end = done })
  ends_bad_times : {k : ℕ} {f : Feed} → BadInTimes room a k f → Ends room a b (record { feed = f; end = bad_times k })
  ends_bad_transfers : {k : ℕ} {f : Feed} → BadInTransfers room a b k f → Ends room a b (record { feed = f; end = bad_transfers k })
  ends_full : {f : Feed} → FullAt room a b f → Ends room a b (record { feed = f; end = full })
