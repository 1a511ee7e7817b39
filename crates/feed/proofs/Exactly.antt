-- 14 and 15 stand exactly where they are said to: a file whose lines are taken up to one that is refused is read so.
-- Assumes nothing.
use Prim.Native.Nat.{ℕ, suc, ◌+◌}
use mathlib.Core.Path.{◌≡◌, refl, sym, ap, subst, ◌∙◌}
use mathlib.Core.Logic.{◌↔◌}
use mathlib.Core.List.{List, [], ◌∷◌, ◌++◌, append-nil}
use native.Mathlib.Omega.{arith}
use lib.ListN.{length}
use Rattle.csv_text.specs.Lines.{lines}
use Rattle.feed.specs.declared.Room.{Room}
use Rattle.feed.specs.declared.TimesColumns.{TimesColumns}
use Rattle.feed.specs.declared.TransferColumns.{TransferColumns}
use Rattle.feed.specs.Feed.{Feed, empty_feed, done, bad_times, bad_transfers, full, Got}
use Rattle.feed.specs.Times.{time_line, times_from, times_under, read_times}
use Rattle.feed.specs.Transfers.{transfers_from, transfers_under, read_transfers}
use Rattle.feed.specs.Reading.{without_mark, transfers_after, read_feed}
use Rattle.feed.specs.Held.{Once}
use Rattle.feed.specs.Refused.{TimesTaken, no_times, times_more, BadTime, TransfersTaken, no_transfers, transfers_more}
use Rattle.feed.specs.Heads.{TimesHead, TransfersHead}
use Rattle.feed.specs.Refused.{TimesDone, times_done, TimesBad, no_times_header, bad_times_header, bad_time, TimesFull, full_time}
use Rattle.feed.specs.Refused.{TransfersDone, transfers_done, TransfersBad, no_transfers_header, bad_transfers_header}
use Rattle.feed.specs.Refused.{bad_transfer, TransfersFull, full_transfer, BadInTimes, BadInTransfers, bad_in_transfers}
use Rattle.feed.specs.Refused.{FullAt, full_in_times, full_in_transfers, AllTaken, all_taken}
use Rattle.feed.specs.Refused.{Ends, ends_done, ends_bad_times, ends_bad_transfers, ends_full}
use Rattle.feed.proofs.IfThere.{either_there}
use Rattle.feed.proofs.Valued.{time_fields}
use Rattle.feed.proofs.Keeping.{empty_right, times_kept}
use Rattle.feed.proofs.Stopping.{time_none, time_goes, time_bad, time_full, transfer_none, transfer_goes, transfer_full}
use Rattle.feed.proofs.Refusing.{bad_refuses, full_refuses, bad_transfer_refused, full_transfer_refused}
use Rattle.feed.proofs.Headed.{times_header_none, transfers_header_none, head_times, head_transfers}
use Rattle.feed.proofs.Reaching.{after_done, after_bad, after_full}
use Rattle.feed.proofs.Meaning.{read_ends}

-- ---- stop_times.txt
-- lines that are taken are passed over
times_over : {c : TimesColumns} {room : Room} {ls : List (List ℕ)} {f g : Feed} {q q' : ℕ} (k : ℕ) (rest : List (List ℕ))
    → TimesTaken c room ls f q g q' → times_from c room k (ls ++ rest) f q ≡ times_from c room (k + length ls) rest g q'
times_over {c} {room} k rest (no_times {f} {q}) = let z : k ≡ k + 0 = omega arith in ap (λ (j : ℕ). times_from c room j rest f q) z
times_over {c} {room} k rest (times_more {l} {ls} {x} {f} {g} {f'} {q} {q'} e h t) =
    let z : suc k + length ls ≡ k + length (l ∷ ls) = omega arith in
    time_goes c room k l (ls ++ rest) f q e h ∙ times_over (suc k) rest t ∙ ap (λ (j : ℕ). times_from c room j rest f' q') z

bad_line_lem : (c : TimesColumns) (room : Room) (k : ℕ) (l : List ℕ) (rest : List (List ℕ)) (f : Feed) (q : ℕ) → Once f.trips → BadTime c f q l
    → times_from c room k (l ∷ rest) f q ≡ record { feed = f; end = bad_times k }
bad_line_lem c room k l rest f q o b =
    either_there (time_line c l)
    (λ e. time_none c room k l rest f q e)
    (λ x e. time_bad c room k l rest f q e (bad_refuses c room f q l o (time_fields c l e) b))

module _ (room : Room) where
  -- under a header
  times_headed : (h : List ℕ) {c : TimesColumns} (ls : List (List ℕ)) → TimesHead h c
      → read_times room (h ∷ ls) ≡ times_from c room 2 ls empty_feed 0
  unfolding read_times times_under
  times_headed h ls e = rw (head_times h e)

  done_times : {ls : List (List ℕ)} {f : Feed} → TimesDone room ls f → read_times room ls ≡ record { feed = f; end = done }
  unfolding times_from
  done_times (times_done {h} {ls} {c} {f} {q} e t) =
      times_headed h ls e
      ∙ ap (λ (s : List (List ℕ)). times_from c room 2 s empty_feed 0) (sym (append-nil ls))
      ∙ times_over 2 [] t

  bad_times_lem : {ls : List (List ℕ)} {k : ℕ} {f : Feed} → TimesBad room ls k f → read_times room ls ≡ record { feed = f; end = bad_times k }
  unfolding read_times times_under
  bad_times_lem no_times_header = refl
  bad_times_lem (bad_times_header {h} b) = rw (times_header_none h b)
  bad_times_lem (bad_time {h} {ls} l rest {c} {f} {q} e t b) =
      times_headed h (ls ++ (l ∷ rest)) e
      ∙ times_over 2 (l ∷ rest) t
      ∙ bad_line_lem c room (2 + length ls) l rest f q (times_kept t (empty_right room) refl).0.trips_once b

  full_times : {ls : List (List ℕ)} {f : Feed} → TimesFull room ls f → read_times room ls ≡ record { feed = f; end = full }
  full_times (full_time {h} {ls} l rest {c} {f} {q} {x} e t v o r) =
      times_headed h (ls ++ (l ∷ rest)) e
      ∙ times_over 2 (l ∷ rest) t
      ∙ time_full c room (2 + length ls) l rest f q v (full_refuses room x f q o r)

-- ---- transfers.txt
transfers_over : {c : TransferColumns} {room : Room} {ls : List (List ℕ)} {f g : Feed} (k : ℕ) (rest : List (List ℕ)) → TransfersTaken c room ls f g
    → transfers_from c room k (ls ++ rest) f ≡ transfers_from c room (k + length ls) rest g
transfers_over {c} {room} k rest (no_transfers {f}) = let z : k ≡ k + 0 = omega arith in ap (λ (j : ℕ). transfers_from c room j rest f) z
transfers_over {c} {room} k rest (transfers_more {l} {ls} {x} {f} {g} {f'} e h t) =
    let z : suc k + length ls ≡ k + length (l ∷ ls) = omega arith in
    transfer_goes c room k l (ls ++ rest) f e h ∙ transfers_over (suc k) rest t ∙ ap (λ (j : ℕ). transfers_from c room j rest f') z

module _ (room : Room) (g : Feed) where
  transfers_headed : (h : List ℕ) {c : TransferColumns} (ls : List (List ℕ)) → TransfersHead h c
      → read_transfers room (h ∷ ls) g ≡ transfers_from c room 2 ls g
  unfolding read_transfers transfers_under
  transfers_headed h ls e = rw (head_transfers h e)

  done_transfers : {ls : List (List ℕ)} {f : Feed} → TransfersDone room g ls f → read_transfers room ls g ≡ record { feed = f; end = done }
  unfolding transfers_from
  done_transfers (transfers_done {h} {ls} {c} {f} e t) =
      transfers_headed h ls e
      ∙ ap (λ (s : List (List ℕ)). transfers_from c room 2 s g) (sym (append-nil ls))
      ∙ transfers_over 2 [] t

  bad_transfers_lem : {ls : List (List ℕ)} {k : ℕ} {f : Feed} → TransfersBad room g ls k f
      → read_transfers room ls g ≡ record { feed = f; end = bad_transfers k }
  unfolding read_transfers transfers_under
  bad_transfers_lem no_transfers_header = refl
  bad_transfers_lem (bad_transfers_header {h} b) = rw (transfers_header_none h b)
  bad_transfers_lem (bad_transfer {h} {ls} l rest {c} {f} e t b) =
      transfers_headed h (ls ++ (l ∷ rest)) e
      ∙ transfers_over 2 (l ∷ rest) t
      ∙ transfer_none c room (2 + length ls) l rest f (bad_transfer_refused c l b)

  full_transfers : {ls : List (List ℕ)} {f : Feed} → TransfersFull room g ls f → read_transfers room ls g ≡ record { feed = f; end = full }
  full_transfers (full_transfer {h} {ls} l rest {c} {f} {x} e t v r) =
      transfers_headed h (ls ++ (l ∷ rest)) e
      ∙ transfers_over 2 (l ∷ rest) t
      ∙ transfer_full c room (2 + length ls) l rest f v (full_transfer_refused room x f r)

-- ---- both files
module _ (room : Room) (a b : List ℕ) where
  -- behind the end of the first, or of the first alone
  first_done : {g : Feed} → TimesDone room (lines (without_mark a)) g → read_feed room a b ≡ read_transfers room (lines (without_mark b)) g
  unfolding read_feed
  first_done {g} t = ap (transfers_after room b) (done_times room t) ∙ after_done room b (record { feed = g; end = done }) refl

  pub bad_times_exactly : {k : ℕ} {f : Feed} → BadInTimes room a k f → read_feed room a b ≡ record { feed = f; end = bad_times k }
  unfolding read_feed
  bad_times_exactly {k} {f} t = ap (transfers_after room b) (bad_times_lem room t) ∙ after_bad room b (record { feed = f; end = bad_times k }) refl

  pub bad_transfers_exactly : {k : ℕ} {f : Feed} → BadInTransfers room a b k f → read_feed room a b ≡ record { feed = f; end = bad_transfers k }
  bad_transfers_exactly (bad_in_transfers {g} t x) = first_done t ∙ bad_transfers_lem room g x

  pub full_exactly : {f : Feed} → FullAt room a b f → read_feed room a b ≡ record { feed = f; end = full }
  unfolding read_feed
  full_exactly {f} (full_in_times t) = ap (transfers_after room b) (full_times room t) ∙ after_full room b (record { feed = f; end = full }) refl
  full_exactly (full_in_transfers {g} t x) = first_done t ∙ full_transfers room g x

  pub done_exactly : {f : Feed} → AllTaken room a b f → read_feed room a b ≡ record { feed = f; end = done }
  done_exactly (all_taken {g} t x) = first_done t ∙ done_transfers room g x

  -- the four together: what is read is what is said
  pub ends_exactly : {g : Got} → Ends room a b g → read_feed room a b ≡ g
  ends_exactly (ends_done x) = done_exactly x
  ends_exactly (ends_bad_times x) = bad_times_exactly x
  ends_exactly (ends_bad_transfers x) = bad_transfers_exactly x
  ends_exactly (ends_full x) = full_exactly x

  -- and nothing else: how a reading ends, and what is left, exactly
  pub ends_iff : {g : Got} → (read_feed room a b ≡ g) ↔ Ends room a b g
  ends_iff = (λ e. subst (Ends room a b) e (read_ends room a b), ends_exactly)
