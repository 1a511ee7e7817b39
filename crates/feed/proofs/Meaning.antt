-- What 14 and 15 mean: the lines before were taken, and the line that ended the reading is refused for one of the listed reasons.
-- Assumes nothing.
use Prim.Native.Nat.{ℕ}
use mathlib.Core.Path.{◌≡◌, refl}
use Rattle.std.specs.Prelude.{Option, None, Some}
use mathlib.Core.List.{List, [], ◌∷◌}
use native.Mathlib.Omega.{arith}
use Rattle.csv_text.specs.There.{if_there}
use Rattle.csv_text.specs.Lines.{lines}
use Rattle.csv_text.specs.Fields.{fields}
use Rattle.feed.specs.declared.Room.{Room}
use Rattle.feed.specs.declared.TimesColumns.{TimesColumns}
use Rattle.feed.specs.declared.TransferColumns.{TransferColumns}
use Rattle.feed.specs.Columns.{times_columns, transfer_columns}
use Rattle.feed.specs.Feed.{Feed, empty_feed, done, bad_times, bad_transfers, full, Got}
use Rattle.feed.specs.Times.{times_under, read_times}
use Rattle.feed.specs.Transfers.{transfers_under, read_transfers}
use Rattle.feed.specs.Reading.{without_mark, transfers_after, read_feed}
use Rattle.feed.specs.Heads.{TimesHead, TransfersHead}
use Rattle.feed.specs.Refused.{TimesDone, times_done, TimesBad, no_times_header, bad_times_header, bad_time, TimesFull, full_time}
use Rattle.feed.specs.Refused.{TransfersDone, transfers_done, TransfersBad, no_transfers_header, bad_transfers_header}
use Rattle.feed.specs.Refused.{bad_transfer, TransfersFull, full_transfer, BadInTimes, BadInTransfers, bad_in_transfers}
use Rattle.feed.specs.Refused.{FullAt, full_in_times, full_in_transfers, AllTaken, all_taken}
use Rattle.feed.specs.Refused.{Ends, ends_done, ends_bad_times, ends_bad_transfers, ends_full}
use Rattle.feed.proofs.Keeping.{Right, empty_right, times_kept, transfers_kept}
use Rattle.feed.proofs.Stopping.{TimesStop, TransfersStop, times_stop, transfers_stop}
use Rattle.feed.proofs.Reasons.{form_bad, order_bad, room_order, room_full, transfer_form_bad, transfer_room_full}
use Rattle.feed.proofs.Headed.{times_header_bad, transfers_header_bad, times_head, transfers_head}
use Rattle.feed.proofs.Reaching.{after_done, after_bad, after_full}

module _ (room : Room) where
  -- ---- stop_times.txt
  data TimesEnd (ls : List (List ℕ)) : Got → Type 0 where
    was_done : {f : Feed} → TimesDone room ls f → TimesEnd ls (record { feed = f; end = done })
    was_bad : {k : ℕ} {f : Feed} → TimesBad room ls k f → TimesEnd ls (record { feed = f; end = bad_times k })
    was_full : {f : Feed} → TimesFull room ls f → TimesEnd ls (record { feed = f; end = full })

  times_under_end : (h : List ℕ) {c : TimesColumns} {ls : List (List ℕ)} {o : Got} → TimesHead h c
      → TimesStop c room 2 empty_feed 0 ls o → TimesEnd (h ∷ ls) o
  times_under_end h e (TimesStop.at_end t) = was_done (times_done e t)
  times_under_end h {c} e (TimesStop.at_none l rest {g} {q'} t n) = was_bad (bad_time l rest e t (form_bad c g q' l n))
  times_under_end h {c} e (TimesStop.at_bad l rest {g} {q'} t n b) = was_bad (bad_time l rest e t (order_bad c room g q' l n b))
  times_under_end h {c} e (TimesStop.at_full l rest {g} {q'} {x} t n b) =
      let r = (times_kept t (empty_right room) refl).0.within in
      was_full (full_time l rest e t n (room_order room g q' x r b) (room_full room g q' x r b))

  times_end : (ls : List (List ℕ)) → TimesEnd ls (read_times room ls)
  unfolding read_times times_under
  times_end [] = was_bad no_times_header
  times_end (h ∷ ls) = go (if_there (fields h) times_columns) refl
    where
      go : (o : Option TimesColumns) → if_there (fields h) times_columns ≡ o → TimesEnd (h ∷ ls) (times_under room o ls)
      go None e = was_bad (bad_times_header (times_header_bad h e))
      go (Some c) e = times_under_end h (times_head h e) (times_stop c room 2 ls empty_feed 0)

  -- the feed of stop_times.txt is right
  times_done_right : {ls : List (List ℕ)} {f : Feed} → TimesDone room ls f → Right room f
  times_done_right (times_done e t) = (times_kept t (empty_right room) refl).0

  -- ---- transfers.txt
  module _ (g : Feed) (r : Right room g) where
    data TransfersEnd (ls : List (List ℕ)) : Got → Type 0 where
      were_done : {f : Feed} → TransfersDone room g ls f → TransfersEnd ls (record { feed = f; end = done })
      were_bad : {k : ℕ} {f : Feed} → TransfersBad room g ls k f → TransfersEnd ls (record { feed = f; end = bad_transfers k })
      were_full : {f : Feed} → TransfersFull room g ls f → TransfersEnd ls (record { feed = f; end = full })

    transfers_under_end : (h : List ℕ) {c : TransferColumns} {ls : List (List ℕ)} {o : Got} → TransfersHead h c
        → TransfersStop c room 2 g ls o → TransfersEnd (h ∷ ls) o
    transfers_under_end h e (TransfersStop.at_end t) = were_done (transfers_done e t)
    transfers_under_end h {c} e (TransfersStop.at_none l rest t n) = were_bad (bad_transfer l rest e t (transfer_form_bad c l n))
    transfers_under_end h {c} e (TransfersStop.at_full l rest {g = f} {x} t n b) =
        were_full (full_transfer l rest e t n (transfer_room_full room f x (transfers_kept t r).within b))

    transfers_end : (ls : List (List ℕ)) → TransfersEnd ls (read_transfers room ls g)
    unfolding read_transfers transfers_under
    transfers_end [] = were_bad no_transfers_header
    transfers_end (h ∷ ls) = go (if_there (fields h) transfer_columns) refl
      where
        go : (o : Option TransferColumns) → if_there (fields h) transfer_columns ≡ o → TransfersEnd (h ∷ ls) (transfers_under room o ls g)
        go None e = were_bad (bad_transfers_header (transfers_header_bad h e))
        go (Some c) e = transfers_under_end h (transfers_head h e) (transfers_stop c room 2 ls g)

  -- ---- both files
  module _ (a b : List ℕ) where
    both_end : {g : Feed} {r : Right room g} {o : Got} → TimesDone room (lines (without_mark a)) g → TransfersEnd g r (lines (without_mark b)) o
        → Ends room a b o
    both_end t (were_done x) = ends_done (all_taken t x)
    both_end t (were_bad x) = ends_bad_transfers (bad_in_transfers t x)
    both_end t (were_full x) = ends_full (full_in_transfers t x)

    after_end : {o : Got} → TimesEnd (lines (without_mark a)) o → Ends room a b (transfers_after room b o)
    after_end (was_done {f} t) =
        rw (after_done room b (record { feed = f; end = done }) refl)
        (both_end t (transfers_end f (times_done_right t) (lines (without_mark b))))
    after_end (was_bad {k} {f} t) = rw (after_bad room b (record { feed = f; end = bad_times k }) refl) (ends_bad_times t)
    after_end (was_full {f} t) = rw (after_full room b (record { feed = f; end = full }) refl) (ends_full (full_in_times t))

    -- every reading ends in one of the listed ways
    pub read_ends : Ends room a b (read_feed room a b)
    unfolding read_feed
    read_ends = after_end (times_end (lines (without_mark a)))

    -- ---- by the number
    bad_times_of : {k : ℕ} {o : Got} → Ends room a b o → o.end ≡ bad_times k → BadInTimes room a k o.feed
    bad_times_of (ends_done x) e = let z : ◌≡◌ {A = ℕ} 0 1 = cc in absurd (omega arith)
    bad_times_of {k} (ends_bad_times {k = j} x) e = let z : j ≡ k = cc in rw (← z) x
    bad_times_of (ends_bad_transfers x) e = let z : ◌≡◌ {A = ℕ} 0 1 = cc in absurd (omega arith)
    bad_times_of (ends_full x) e = let z : ◌≡◌ {A = ℕ} 0 1 = cc in absurd (omega arith)

    bad_transfers_of : {k : ℕ} {o : Got} → Ends room a b o → o.end ≡ bad_transfers k → BadInTransfers room a b k o.feed
    bad_transfers_of (ends_done x) e = let z : ◌≡◌ {A = ℕ} 0 1 = cc in absurd (omega arith)
    bad_transfers_of (ends_bad_times x) e = let z : ◌≡◌ {A = ℕ} 0 1 = cc in absurd (omega arith)
    bad_transfers_of {k} (ends_bad_transfers {k = j} x) e = let z : j ≡ k = cc in rw (← z) x
    bad_transfers_of (ends_full x) e = let z : ◌≡◌ {A = ℕ} 0 1 = cc in absurd (omega arith)

    full_of : {o : Got} → Ends room a b o → o.end ≡ full → FullAt room a b o.feed
    full_of (ends_done x) e = let z : ◌≡◌ {A = ℕ} 0 1 = cc in absurd (omega arith)
    full_of (ends_bad_times x) e = let z : ◌≡◌ {A = ℕ} 0 1 = cc in absurd (omega arith)
    full_of (ends_bad_transfers x) e = let z : ◌≡◌ {A = ℕ} 0 1 = cc in absurd (omega arith)
    full_of (ends_full x) e = x

    done_of : {o : Got} → Ends room a b o → o.end ≡ done → AllTaken room a b o.feed
    done_of (ends_done x) e = x
    done_of (ends_bad_times x) e = let z : ◌≡◌ {A = ℕ} 0 1 = cc in absurd (omega arith)
    done_of (ends_bad_transfers x) e = let z : ◌≡◌ {A = ℕ} 0 1 = cc in absurd (omega arith)
    done_of (ends_full x) e = let z : ◌≡◌ {A = ℕ} 0 1 = cc in absurd (omega arith)

    pub bad_times_means : {k : ℕ} → (read_feed room a b).end ≡ bad_times k → BadInTimes room a k (read_feed room a b).feed
    bad_times_means e = bad_times_of read_ends e

    pub bad_transfers_means : {k : ℕ} → (read_feed room a b).end ≡ bad_transfers k → BadInTransfers room a b k (read_feed room a b).feed
    bad_transfers_means e = bad_transfers_of read_ends e

    pub full_means : (read_feed room a b).end ≡ full → FullAt room a b (read_feed room a b).feed
    full_means e = full_of read_ends e

    pub done_means : (read_feed room a b).end ≡ done → AllTaken room a b (read_feed room a b).feed
    done_means e = done_of read_ends e
