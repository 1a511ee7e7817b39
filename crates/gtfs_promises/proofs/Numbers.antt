-- The numbers that `read` answers with: which there are, and exactly where each stands.
-- Assumes nothing.
use Prim.Native.Nat.{ℕ}
use mathlib.Core.Path.{◌≡◌, refl, sym, ap, ◌∙◌}
use mathlib.Core.Bool.{true, false}
use mathlib.Core.Logic.{◌↔◌}
use mathlib.Core.List.{List}
use native.Mathlib.Omega.{arith}
use Rattle.base.proofs.Choice.{split}
use Rattle.feed.specs.Feed.{End, Feed, done, bad_times, bad_transfers, full, Got}
use Rattle.feed.specs.Refused.{BadInTimes, BadInTransfers, FullAt, AllTaken}
use Rattle.feed.specs.Refused.{Ends, ends_done, ends_bad_times, ends_bad_transfers, ends_full}
use Rattle.feed.proofs.Meaning.{read_ends}
use Rattle.feed.proofs.Exactly.{ends_exactly}
use Rattle.gtfs_read.specs.declared.Told.{Told}
use Rattle.gtfs_read.specs.Reads.{LentFeed, feed_room, is_too_long, number_for, line_for, file_for, ended_as, ending_number, ending_line, ending_file, told_by, split_of, refused_long, Reads}
use Rattle.gtfs_promises.specs.Answers.{TooLong, BothShort, AnswersWith, Answers, all_read, file_too_long, stop_times_line_bad, transfers_line_bad, table_full}
use Rattle.gtfs_promises.specs.Tables.{Holds, ReadUntil}
use Rattle.gtfs_promises.proofs.Keeps.{long_test, short_test, test_long, test_short, long_told, short_told, read_holds}

-- the code's ending and that of the definitions have the same number, line and file
number_ended : (z : End) → ending_number (ended_as z) ≡ number_for z
unfolding ended_as number_for
number_ended done = refl
number_ended (bad_times k) = refl
number_ended (bad_transfers k) = refl
number_ended full = refl

line_ended : (z : End) → ending_line (ended_as z) ≡ line_for z
unfolding ended_as line_for
line_ended done = refl
line_ended (bad_times k) = refl
line_ended (bad_transfers k) = refl
line_ended full = refl

file_ended : (z : End) → ending_file (ended_as z) ≡ file_for z
unfolding ended_as file_for
file_ended done = refl
file_ended (bad_times k) = refl
file_ended (bad_transfers k) = refl
file_ended full = refl

-- what an answer says, by how the reading ended
pub told_says : {r : Told} (split : ℕ) (g : Got) → r ≡ told_by split g → AnswersWith r (number_for g.end) (line_for g.end) (file_for g.end)
unfolding told_by
told_says split g e = record {
  number_is = ap (λ (x : Told). ending_number x.ending) e ∙ number_ended g.end;
  line_is = ap (λ (x : Told). ending_line x.ending) e ∙ line_ended g.end;
  file_is = ap (λ (x : Told). ending_file x.ending) e ∙ file_ended g.end;
}

-- the five answers, each with what it means
data Meant (a b : List ℕ) (l : LentFeed) (r : Told) (l' : LentFeed) : Type 0 where
  meant_done : AnswersWith r 0 0 0 → ReadUntil (AllTaken (feed_room l) a b) a b l r l' → Meant a b l r l'
  meant_long : AnswersWith r 1 0 0 → TooLong a b → l' ≡ l → Meant a b l r l'
  meant_times : {k : ℕ} → AnswersWith r 14 k 1 → ReadUntil (BadInTimes (feed_room l) a k) a b l r l' → Meant a b l r l'
  meant_transfers : {k : ℕ} → AnswersWith r 14 k 2 → ReadUntil (BadInTransfers (feed_room l) a b k) a b l r l' → Meant a b l r l'
  meant_full : AnswersWith r 15 0 0 → ReadUntil (FullAt (feed_room l) a b) a b l r l' → Meant a b l r l'

module _ {a b : List ℕ} {l : LentFeed} {r : Told} {l' : LentFeed} (m : Reads a b l r l') where
  short_means : is_too_long a b ≡ false → {g : Got} → Ends (feed_room l) a b g → r ≡ told_by (split_of (feed_room l) a) g → Holds a b l r l' g.feed
      → Meant a b l r l'
  unfolding number_for line_for file_for
  short_means s (ends_done {f} x) e h =
      meant_done (told_says (split_of (feed_room l) a) (record { feed = f; end = done }) e)
      (record { short = test_short s; feed = f; how = x; left = h })
  short_means s (ends_bad_times {k} {f} x) e h =
      meant_times (told_says (split_of (feed_room l) a) (record { feed = f; end = bad_times k }) e)
      (record { short = test_short s; feed = f; how = x; left = h })
  short_means s (ends_bad_transfers {k} {f} x) e h =
      meant_transfers (told_says (split_of (feed_room l) a) (record { feed = f; end = bad_transfers k }) e)
      (record { short = test_short s; feed = f; how = x; left = h })
  short_means s (ends_full {f} x) e h =
      meant_full (told_says (split_of (feed_room l) a) (record { feed = f; end = full }) e)
      (record { short = test_short s; feed = f; how = x; left = h })

  long_says : is_too_long a b ≡ true → AnswersWith r 1 0 0
  unfolding refused_long
  long_says s = let e = long_told m s in record {
    number_is = ap (λ (x : Told). ending_number x.ending) e;
    line_is = ap (λ (x : Told). ending_line x.ending) e;
    file_is = ap (λ (x : Told). ending_file x.ending) e;
  }

  meaning : Meant a b l r l'
  meaning =
      split (is_too_long a b)
      (λ s. meant_long (long_says s) (test_long s) (m.refused s))
      (λ s. short_means s (read_ends (feed_room l) a b) (short_told m s) (read_holds m s))

  -- the other way: files that end so are answered so, and what was taken until then is left
  ended_says : BothShort a b → {g : Got} → Ends (feed_room l) a b g
      → AnswersWith r (number_for g.end) (line_for g.end) (file_for g.end) × Holds a b l r l' g.feed
  ended_says s {g} y =
      let e = ends_exactly (feed_room l) a b y in (
        told_says (split_of (feed_room l) a) g (short_told m (short_test s) ∙ ap (told_by (split_of (feed_room l) a)) e),
        rw e at (read_holds m (short_test s)),
      )

  -- ---- the promises
  -- r's number is 0, 1, 14 or 15; a line and a file stand beside 14 alone
  pub number_known : Answers r
  number_known = go meaning
    where
      go : Meant a b l r l' → Answers r
      go (meant_done s x) = all_read s
      go (meant_long s x e) = file_too_long s
      go (meant_times s x) = stop_times_line_bad (record { number_is = s.number_is; line_is = refl; file_is = s.file_is })
      go (meant_transfers s x) = transfers_line_bad (record { number_is = s.number_is; line_is = refl; file_is = s.file_is })
      go (meant_full s x) = table_full s

  -- 1: exactly where a file is too long
  pub number_1 : AnswersWith r 1 0 0 ↔ TooLong a b
  number_1 = (λ s. go s meaning, λ t. long_says (long_test t))
    where
      go : AnswersWith r 1 0 0 → Meant a b l r l' → TooLong a b
      go s (meant_done t x) = absurd (omega (arith, s.number_is, t.number_is))
      go s (meant_long t x e) = x
      go s (meant_times t x) = absurd (omega (arith, s.number_is, t.number_is))
      go s (meant_transfers t x) = absurd (omega (arith, s.number_is, t.number_is))
      go s (meant_full t x) = absurd (omega (arith, s.number_is, t.number_is))

  -- and then nothing is touched, and nothing is counted
  pub long_untouched : TooLong a b → l' ≡ l
  long_untouched t = m.refused (long_test t)

  pub long_nothing : TooLong a b → r ≡ refused_long
  long_nothing t = long_told m (long_test t)

  -- 0: exactly where every line of both files was taken
  pub number_0 : AnswersWith r 0 0 0 ↔ ReadUntil (AllTaken (feed_room l) a b) a b l r l'
  unfolding number_for line_for file_for
  number_0 = (λ s. go s meaning, λ x. (ended_says x.short (ends_done x.how)).0)
    where
      go : AnswersWith r 0 0 0 → Meant a b l r l' → ReadUntil (AllTaken (feed_room l) a b) a b l r l'
      go s (meant_done t x) = x
      go s (meant_long t x e) = absurd (omega (arith, s.number_is, t.number_is))
      go s (meant_times t x) = absurd (omega (arith, s.number_is, t.number_is))
      go s (meant_transfers t x) = absurd (omega (arith, s.number_is, t.number_is))
      go s (meant_full t x) = absurd (omega (arith, s.number_is, t.number_is))

  -- 14: exactly where line k of stop_times.txt is bad, for a listed reason, and every line before it was taken
  pub number_14_times : {k : ℕ} → AnswersWith r 14 k 1 ↔ ReadUntil (BadInTimes (feed_room l) a k) a b l r l'
  unfolding number_for line_for file_for
  number_14_times {k} = (λ s. go s meaning, λ x. (ended_says x.short (ends_bad_times x.how)).0)
    where
      go : AnswersWith r 14 k 1 → Meant a b l r l' → ReadUntil (BadInTimes (feed_room l) a k) a b l r l'
      go s (meant_done t x) = absurd (omega (arith, s.number_is, t.number_is))
      go s (meant_long t x e) = absurd (omega (arith, s.number_is, t.number_is))
      go s (meant_times {k = j} t x) = let z : j ≡ k = sym t.line_is ∙ s.line_is in rw (← z) x
      go s (meant_transfers t x) = absurd (omega (arith, s.file_is, t.file_is))
      go s (meant_full t x) = absurd (omega (arith, s.number_is, t.number_is))

  -- 14 of transfers.txt: stop_times.txt was read to its end
  pub number_14_transfers : {k : ℕ} → AnswersWith r 14 k 2 ↔ ReadUntil (BadInTransfers (feed_room l) a b k) a b l r l'
  unfolding number_for line_for file_for
  number_14_transfers {k} = (λ s. go s meaning, λ x. (ended_says x.short (ends_bad_transfers x.how)).0)
    where
      go : AnswersWith r 14 k 2 → Meant a b l r l' → ReadUntil (BadInTransfers (feed_room l) a b k) a b l r l'
      go s (meant_done t x) = absurd (omega (arith, s.number_is, t.number_is))
      go s (meant_long t x e) = absurd (omega (arith, s.number_is, t.number_is))
      go s (meant_times t x) = absurd (omega (arith, s.file_is, t.file_is))
      go s (meant_transfers {k = j} t x) = let z : j ≡ k = sym t.line_is ∙ s.line_is in rw (← z) x
      go s (meant_full t x) = absurd (omega (arith, s.number_is, t.number_is))

  -- 15: exactly where the next line is right and a table has no room for it
  pub number_15 : AnswersWith r 15 0 0 ↔ ReadUntil (FullAt (feed_room l) a b) a b l r l'
  unfolding number_for line_for file_for
  number_15 = (λ s. go s meaning, λ x. (ended_says x.short (ends_full x.how)).0)
    where
      go : AnswersWith r 15 0 0 → Meant a b l r l' → ReadUntil (FullAt (feed_room l) a b) a b l r l'
      go s (meant_done t x) = absurd (omega (arith, s.number_is, t.number_is))
      go s (meant_long t x e) = absurd (omega (arith, s.number_is, t.number_is))
      go s (meant_times t x) = absurd (omega (arith, s.number_is, t.number_is))
      go s (meant_transfers t x) = absurd (omega (arith, s.number_is, t.number_is))
      go s (meant_full t x) = x

  -- ---- and so files alone decide the number, and what is left: nothing need be known of what was read
  pub taken_answered : {f : Feed} → BothShort a b → AllTaken (feed_room l) a b f → AnswersWith r 0 0 0 × Holds a b l r l' f
  unfolding number_for line_for file_for
  taken_answered s x = ended_says s (ends_done x)

  pub bad_times_answered : {k : ℕ} {f : Feed} → BothShort a b → BadInTimes (feed_room l) a k f → AnswersWith r 14 k 1 × Holds a b l r l' f
  unfolding number_for line_for file_for
  bad_times_answered s x = ended_says s (ends_bad_times x)

  pub bad_transfers_answered : {k : ℕ} {f : Feed} → BothShort a b → BadInTransfers (feed_room l) a b k f
      → AnswersWith r 14 k 2 × Holds a b l r l' f
  unfolding number_for line_for file_for
  bad_transfers_answered s x = ended_says s (ends_bad_transfers x)

  pub full_answered : {f : Feed} → BothShort a b → FullAt (feed_room l) a b f → AnswersWith r 15 0 0 × Holds a b l r l' f
  unfolding number_for line_for file_for
  full_answered s x = ended_says s (ends_full x)
