-- Whatever is read, and wherever the reading ends: row for row it says what the lines say.
-- Assumes nothing.
use Prim.Native.Nat.{ℕ}
use mathlib.Core.Path.{◌≡◌, refl, ◌∙◌}
use mathlib.Core.List.{List, [], ◌∷◌, ◌++◌, append-nil}
use Rattle.csv_text.specs.Lines.{lines}
use Rattle.feed.specs.declared.Room.{Room}
use Rattle.feed.specs.declared.TimesColumns.{TimesColumns}
use Rattle.feed.specs.declared.TransferColumns.{TransferColumns}
use Rattle.feed.specs.Feed.{Feed, empty_feed, Got}
use Rattle.feed.specs.Reading.{without_mark, read_feed}
use Rattle.feed.specs.Heads.{TimesHead, TransfersHead}
use Rattle.feed.specs.Refused.{TimesTaken, TransfersTaken}
use Rattle.feed.specs.Refused.{TimesDone, times_done, TimesBad, no_times_header, bad_times_header, bad_time, TimesFull, full_time}
use Rattle.feed.specs.Refused.{TransfersDone, transfers_done, TransfersBad, no_transfers_header, bad_transfers_header}
use Rattle.feed.specs.Refused.{bad_transfer, TransfersFull, full_transfer, bad_in_transfers, full_in_times, full_in_transfers, all_taken}
use Rattle.feed.specs.Refused.{Ends, ends_done, ends_bad_times, ends_bad_transfers, ends_full}
use Rattle.feed.specs.Speaking.{SaysTimes, no_header_times, header_times, SaysTransfers}
use Rattle.feed.specs.Speaking.{no_header_transfers, header_transfers}
use Rattle.feed.proofs.Saying.{times_went, times_say, transfers_went, transfers_say, times_say_still}
use Rattle.feed.proofs.Meaning.{read_ends}

-- ---- the first lines of each file were taken
data TimesReach (room : Room) : List (List ℕ) → Feed → Type 0 where
  none_read : {ls : List (List ℕ)} → TimesReach room ls empty_feed
  some_read : {h : List ℕ} {ls : List (List ℕ)} (rest : List (List ℕ)) {c : TimesColumns} {f : Feed} {q : ℕ} → TimesHead h c
      → TimesTaken c room ls empty_feed 0 f q → TimesReach room (h ∷ (ls ++ rest)) f

data TransfersReach (room : Room) (g : Feed) : List (List ℕ) → Feed → Type 0 where
  none_read : {ls : List (List ℕ)} → TransfersReach room g ls g
  some_read : {h : List ℕ} {ls : List (List ℕ)} (rest : List (List ℕ)) {c : TransferColumns} {f : Feed} → TransfersHead h c
      → TransfersTaken c room ls g f → TransfersReach room g (h ∷ (ls ++ rest)) f

module _ {room : Room} where
  reach_done : {ls : List (List ℕ)} {f : Feed} → TimesDone room ls f → TimesReach room ls f
  reach_done (times_done {h} {ls} {c} {f} e t) =
      let z : TimesReach room (h ∷ (ls ++ [])) f = TimesReach.some_read [] e t in
      rw (append-nil ls) at z

  reach_bad : {ls : List (List ℕ)} {k : ℕ} {f : Feed} → TimesBad room ls k f → TimesReach room ls f
  reach_bad no_times_header = TimesReach.none_read
  reach_bad (bad_times_header b) = TimesReach.none_read
  reach_bad (bad_time l rest e t b) = TimesReach.some_read (l ∷ rest) e t

  reach_full : {ls : List (List ℕ)} {f : Feed} → TimesFull room ls f → TimesReach room ls f
  reach_full (full_time l rest e t v o r) = TimesReach.some_read (l ∷ rest) e t

  module _ {g : Feed} where
    beyond_done : {ls : List (List ℕ)} {f : Feed} → TransfersDone room g ls f → TransfersReach room g ls f
    beyond_done (transfers_done {h} {ls} {c} {f} e t) =
        let z : TransfersReach room g (h ∷ (ls ++ [])) f = TransfersReach.some_read [] e t in
        rw (append-nil ls) at z

    beyond_bad : {ls : List (List ℕ)} {k : ℕ} {f : Feed} → TransfersBad room g ls k f → TransfersReach room g ls f
    beyond_bad no_transfers_header = TransfersReach.none_read
    beyond_bad (bad_transfers_header b) = TransfersReach.none_read
    beyond_bad (bad_transfer l rest e t b) = TransfersReach.some_read (l ∷ rest) e t

    beyond_full : {ls : List (List ℕ)} {f : Feed} → TransfersFull room g ls f → TransfersReach room g ls f
    beyond_full (full_transfer l rest e t v r) = TransfersReach.some_read (l ∷ rest) e t

  -- ---- and say what stands there
  times_said : {ls : List (List ℕ)} {f : Feed} → TimesReach room ls f → SaysTimes f ls
  times_said TimesReach.none_read = no_header_times refl
  times_said (TimesReach.some_read {h} {ls} rest e t) = header_times ls rest e (times_say t)

  -- no transfer yet
  no_transfer_yet : {ls : List (List ℕ)} {f : Feed} → TimesReach room ls f → f.transfers ≡ []
  no_transfer_yet TimesReach.none_read = refl
  no_transfer_yet (TimesReach.some_read rest e t) = (times_went t).transfers

  transfers_said : {g f : Feed} {ls : List (List ℕ)} → TransfersReach room g ls f → g.transfers ≡ [] → SaysTransfers f ls
  transfers_said TransfersReach.none_read n = no_header_transfers n
  transfers_said (TransfersReach.some_read {h} {ls} rest e t) n = header_transfers ls rest e (transfers_say t n)

  still_said : {g f : Feed} {c : TransferColumns} {ls ms : List (List ℕ)} → TransfersTaken c room ms g f → SaysTimes g ls → SaysTimes f ls
  still_said t (no_header_times e) = no_header_times ((transfers_went t).times ∙ e)
  still_said t (header_times ls rest e s) = header_times ls rest e (times_say_still t s)

  behind : {g f : Feed} {ls ms : List (List ℕ)} → TransfersReach room g ms f → SaysTimes g ls → SaysTimes f ls
  behind TransfersReach.none_read s = s
  behind (TransfersReach.some_read rest e t) s = still_said t s

  -- ---- both files
  module _ {a b : List ℕ} where
    ends_say_times : {o : Got} → Ends room a b o → SaysTimes o.feed (lines (without_mark a))
    ends_say_times (ends_done (all_taken t x)) = behind (beyond_done x) (times_said (reach_done t))
    ends_say_times (ends_bad_times t) = times_said (reach_bad t)
    ends_say_times (ends_bad_transfers (bad_in_transfers t x)) = behind (beyond_bad x) (times_said (reach_done t))
    ends_say_times (ends_full (full_in_times t)) = times_said (reach_full t)
    ends_say_times (ends_full (full_in_transfers t x)) = behind (beyond_full x) (times_said (reach_done t))

    ends_say_transfers : {o : Got} → Ends room a b o → SaysTransfers o.feed (lines (without_mark b))
    ends_say_transfers (ends_done (all_taken t x)) = transfers_said (beyond_done x) (no_transfer_yet (reach_done t))
    ends_say_transfers (ends_bad_times t) = no_header_transfers (no_transfer_yet (reach_bad t))
    ends_say_transfers (ends_bad_transfers (bad_in_transfers t x)) = transfers_said (beyond_bad x) (no_transfer_yet (reach_done t))
    ends_say_transfers (ends_full (full_in_times t)) = no_header_transfers (no_transfer_yet (reach_full t))
    ends_say_transfers (ends_full (full_in_transfers t x)) = transfers_said (beyond_full x) (no_transfer_yet (reach_done t))

pub read_says_times : (room : Room) (a b : List ℕ) → SaysTimes (read_feed room a b).feed (lines (without_mark a))
read_says_times room a b = ends_say_times (read_ends room a b)

pub read_says_transfers : (room : Room) (a b : List ℕ) → SaysTransfers (read_feed room a b).feed (lines (without_mark b))
read_says_transfers room a b = ends_say_transfers (read_ends room a b)
