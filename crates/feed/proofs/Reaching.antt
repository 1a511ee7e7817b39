-- What holds of an empty feed, and of every feed that a taken line leads to, holds of what is read, wherever the reading ends.
-- Assumes nothing.
use Prim.Native.Nat.{ℕ}
use mathlib.Core.Path.{◌≡◌, refl, ap}
use Rattle.std.specs.Prelude.{Option, None, Some}
use mathlib.Core.List.{List, [], ◌∷◌}
use Rattle.csv_text.specs.There.{if_there}
use Rattle.csv_text.specs.Lines.{lines}
use Rattle.csv_text.specs.Fields.{fields}
use Rattle.feed.specs.declared.Room.{Room}
use Rattle.feed.specs.declared.TimesColumns.{TimesColumns}
use Rattle.feed.specs.declared.TransferColumns.{TransferColumns}
use Rattle.feed.specs.Columns.{times_columns, transfer_columns}
use Rattle.feed.specs.Feed.{Feed, empty_feed, End, done, bad_times, bad_transfers, full, Got}
use Rattle.feed.specs.Times.{times_under, read_times}
use Rattle.feed.specs.Transfers.{transfers_under, read_transfers}
use Rattle.feed.specs.Reading.{without_mark, transfers_after, read_feed}
use Rattle.feed.specs.Refused.{TimesTaken, TransfersTaken}
use Rattle.feed.proofs.Stopping.{TimesStop, TransfersStop, times_stop, transfers_stop}

-- ---- the second file follows where the first came to its end
module _ (room : Room) (b : List ℕ) (g : Got) where
  pub after_done : g.end ≡ done → transfers_after room b g ≡ read_transfers room (lines (without_mark b)) g.feed
  unfolding transfers_after
  after_done e = rw (e, transfers_after)

  pub after_bad : {k : ℕ} → g.end ≡ bad_times k → transfers_after room b g ≡ g
  unfolding transfers_after
  after_bad e = rw (e, transfers_after) (ap {B = Got} (λ (w : End). record { feed = g.feed; end = w }) e)

  pub after_full : g.end ≡ full → transfers_after room b g ≡ g
  unfolding transfers_after
  after_full e = rw (e, transfers_after) (ap {B = Got} (λ (w : End). record { feed = g.feed; end = w }) e)

  pub after_other : {k : ℕ} → g.end ≡ bad_transfers k → transfers_after room b g ≡ g
  unfolding transfers_after
  after_other e = rw (e, transfers_after) (ap {B = Got} (λ (w : End). record { feed = g.feed; end = w }) e)

end_cases : {C : Type 0} (e : End) → (e ≡ done → C) → ((k : ℕ) → e ≡ bad_times k → C) → ((k : ℕ) → e ≡ bad_transfers k → C) → (e ≡ full → C) → C
end_cases done a b c d = a refl
end_cases (bad_times k) a b c d = b k refl
end_cases (bad_transfers k) a b c d = c k refl
end_cases full a b c d = d refl

-- ---- P of the feed while stop_times.txt is read, then Q
pub record Stays (room : Room) (P Q : Feed → Type 0) : Type 0 where
  pub empty : P empty_feed
  pub times : {c : TimesColumns} {ls : List (List ℕ)} {f g : Feed} {q q' : ℕ} → TimesTaken c room ls f q g q' → P f → P g
  pub then : {f : Feed} → P f → Q f
  pub transfers : {c : TransferColumns} {ls : List (List ℕ)} {f g : Feed} → TransfersTaken c room ls f g → Q f → Q g

module _ (room : Room) (P Q : Feed → Type 0) (s : Stays room P Q) where
  at_times_stop : {c : TimesColumns} {k q : ℕ} {f : Feed} {ls : List (List ℕ)} {o : Got} → TimesStop c room k f q ls o → P f → P o.feed
  at_times_stop (TimesStop.at_end t) p = s.times t p
  at_times_stop (TimesStop.at_none l rest t e) p = s.times t p
  at_times_stop (TimesStop.at_bad l rest t e h) p = s.times t p
  at_times_stop (TimesStop.at_full l rest t e h) p = s.times t p

  under_times : (o : Option TimesColumns) (ls : List (List ℕ)) → P (times_under room o ls).feed
  unfolding times_under
  under_times None ls = s.empty
  under_times (Some c) ls = at_times_stop (times_stop c room 2 ls empty_feed 0) s.empty

  of_times : (ls : List (List ℕ)) → P (read_times room ls).feed
  unfolding read_times
  of_times [] = s.empty
  of_times (h ∷ ls) = under_times (if_there (fields h) times_columns) ls

  at_transfers_stop : {c : TransferColumns} {k : ℕ} {f : Feed} {ls : List (List ℕ)} {o : Got} → TransfersStop c room k f ls o → Q f → Q o.feed
  at_transfers_stop (TransfersStop.at_end t) p = s.transfers t p
  at_transfers_stop (TransfersStop.at_none l rest t e) p = s.transfers t p
  at_transfers_stop (TransfersStop.at_full l rest t e h) p = s.transfers t p

  under_transfers : (o : Option TransferColumns) (ls : List (List ℕ)) (f : Feed) → Q f → Q (transfers_under room o ls f).feed
  unfolding transfers_under
  under_transfers None ls f p = p
  under_transfers (Some c) ls f p = at_transfers_stop (transfers_stop c room 2 ls f) p

  of_transfers : (ls : List (List ℕ)) (f : Feed) → Q f → Q (read_transfers room ls f).feed
  unfolding read_transfers
  of_transfers [] f p = p
  of_transfers (h ∷ ls) f p = under_transfers (if_there (fields h) transfer_columns) ls f p

  of_both : (b : List ℕ) (g : Got) → Q g.feed → Q (transfers_after room b g).feed
  of_both b g p =
      end_cases g.end
      (λ e. rw (after_done room b g e) (of_transfers (lines (without_mark b)) g.feed p))
      (λ k e. rw (after_bad room b g e) p)
      (λ k e. rw (after_other room b g e) p)
      (λ e. rw (after_full room b g e) p)

  pub holds_of_read : (a b : List ℕ) → Q (read_feed room a b).feed
  unfolding read_feed
  holds_of_read a b = of_both b (read_times room (lines (without_mark a))) (s.then (of_times (lines (without_mark a))))
