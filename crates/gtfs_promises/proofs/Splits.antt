-- How many stops stop_times.txt names: as many as its rows count, whatever transfers.txt holds.
-- Assumes nothing.
use Prim.Native.Nat.{ℕ}
use mathlib.Core.Path.{◌≡◌, refl, sym, ap, ◌∙◌}
use mathlib.Core.List.{List, [], ◌∷◌, ◌++◌}
use native.Mathlib.Omega.{arith}
use lib.ListN.{length}
use Rattle.csv_text.specs.Lines.{lines_from, lines}
use Rattle.feed.specs.declared.Room.{Room}
use Rattle.feed.specs.Feed.{Feed, End, done, bad_times, bad_transfers, full, Got}
use Rattle.feed.specs.Times.{read_times}
use Rattle.feed.specs.Transfers.{read_transfers}
use Rattle.feed.specs.Reading.{without_mark, transfers_after, read_feed}
use Rattle.feed.specs.Orderly.{none_seen, after_times, after_transfers}
use Rattle.feed.specs.Speaking.{SaysTransfers, no_header_transfers, header_transfers}
use Rattle.feed.specs.Refused.{TimesDone, TransfersDone, transfers_done, TransfersBad, no_transfers_header, bad_transfers_header, bad_transfer}
use Rattle.feed.specs.Refused.{TransfersFull, full_transfer, bad_in_transfers, full_in_times, full_in_transfers, all_taken}
use Rattle.feed.specs.Refused.{Ends, ends_done, ends_bad_times, ends_bad_transfers, ends_full}
use Rattle.feed.proofs.Reaching.{after_done, after_bad, after_full, after_other}
use Rattle.feed.proofs.Saying.{transfers_went}
use Rattle.feed.proofs.Standing.{read_tallies}
use Rattle.feed.proofs.Faithful.{read_says_transfers}
use Rattle.feed.proofs.Meaning.{read_ends}
use Rattle.feed.proofs.Exactly.{bad_times_exactly, bad_transfers_exactly, full_exactly}
use Rattle.gtfs_read.specs.Reads.{split_of}

no_lines : lines (without_mark []) ≡ []
unfolding lines lines_from without_mark
no_lines = refl

none_said : {f : Feed} {ls : List (List ℕ)} → SaysTransfers f ls → ls ≡ [] → f.transfers ≡ []
none_said (no_header_transfers e) z = e
none_said (header_transfers {h} ls rest e s) z = let y : length (h ∷ (ls ++ rest)) ≡ 0 = ap length z in absurd (omega arith)

module _ (room : Room) where
  -- without a second file
  alone : (g : Got) (e : End) → g.end ≡ e → (transfers_after room [] g).feed ≡ g.feed
  unfolding read_transfers
  alone g done e = rw (after_done room [] g e, no_lines)
  alone g (bad_times k) e = rw (after_bad room [] g e)
  alone g (bad_transfers k) e = rw (after_other room [] g e)
  alone g full e = rw (after_full room [] g e)

  module _ (a : List ℕ) where
    abbrev first : Feed
    first = (read_feed room a []).feed

    first_is : first ≡ (read_times room (lines (without_mark a))).feed
    unfolding read_feed
    first_is = let g = read_times room (lines (without_mark a)) in alone g g.end refl

    -- no line of the second file touches a stop time
    done_same : {g f : Feed} {ls : List (List ℕ)} → TransfersDone room g ls f → f.times ≡ g.times
    done_same (transfers_done e t) = (transfers_went t).times

    bad_same : {g f : Feed} {k : ℕ} {ls : List (List ℕ)} → TransfersBad room g ls k f → f.times ≡ g.times
    bad_same no_transfers_header = refl
    bad_same (bad_transfers_header e) = refl
    bad_same (bad_transfer l rest e t b) = (transfers_went t).times

    full_same : {g f : Feed} {ls : List (List ℕ)} → TransfersFull room g ls f → f.times ≡ g.times
    full_same (full_transfer l rest e t v n) = (transfers_went t).times

    no_second : {g : Feed} → TimesDone room (lines (without_mark a)) g → first ≡ g
    no_second {g} t =
        let x : TransfersBad room g (lines (without_mark [])) 1 g = rw no_lines no_transfers_header in
        ap (λ (o : Got). o.feed) (bad_transfers_exactly room a [] (bad_in_transfers t x))

    times_alone : {b : List ℕ} {o : Got} → Ends room a b o → o.feed.times ≡ first.times
    times_alone (ends_done (all_taken t x)) = done_same x ∙ ap (λ (f : Feed). f.times) (sym (no_second t))
    times_alone (ends_bad_times x) = ap (λ (o : Got). o.feed.times) (sym (bad_times_exactly room a [] x))
    times_alone (ends_bad_transfers (bad_in_transfers t x)) = bad_same x ∙ ap (λ (f : Feed). f.times) (sym (no_second t))
    times_alone (ends_full (full_in_times t)) = ap (λ (o : Got). o.feed.times) (sym (full_exactly room a [] (full_in_times t)))
    times_alone (ends_full (full_in_transfers t x)) = full_same x ∙ ap (λ (f : Feed). f.times) (sym (no_second t))

    first_counts : length first.stops ≡ (after_times none_seen first.times).stops
    unfolding after_transfers
    first_counts = (read_tallies room a []).stops ∙ rw (none_said (read_says_transfers room a []) no_lines)

    pub split_counts : (b : List ℕ) → split_of room a ≡ (after_times none_seen (read_feed room a b).feed.times).stops
    unfolding split_of
    split_counts b =
        ap (λ (f : Feed). length f.stops) (sym first_is) ∙ first_counts ∙ rw (times_alone (read_ends room a b))
