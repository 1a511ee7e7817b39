-- Where a reading stops: behind lines that are taken, at the file's end or at a line that is refused.
-- Assumes nothing.
use Prim.Native.Nat.{ℕ, suc, ◌+◌}
use mathlib.Core.Path.{◌≡◌, refl}
use Rattle.std.specs.Prelude.{None, Some}
use mathlib.Core.List.{List, [], ◌∷◌, ◌++◌}
use native.Mathlib.Omega.{arith}
use lib.ListN.{length}
use Rattle.feed.specs.declared.Room.{Room}
use Rattle.feed.specs.declared.TimesColumns.{TimesColumns}
use Rattle.feed.specs.declared.TransferColumns.{TransferColumns}
use Rattle.feed.specs.Feed.{Feed, done, bad_times, bad_transfers, full, Got}
use Rattle.feed.specs.Times.{TimeLine, time_line, Took, kept, bad, out_of_room, take_time, times_from}
use Rattle.feed.specs.Transfers.{TransferLine, transfer_line, take_transfer, transfers_from}
use Rattle.feed.specs.Refused.{TimesTaken, no_times, times_more, TransfersTaken, no_transfers, transfers_more}
use Rattle.feed.proofs.IfThere.{either_there}

took_cases : {C : Type 0} (o : Took) → ((g : Feed) → o ≡ kept g → C) → (o ≡ bad → C) → (o ≡ out_of_room → C) → C
took_cases (kept g) a b d = a g refl
took_cases bad a b d = b refl
took_cases out_of_room a b d = d refl

-- ---- stop_times.txt
module _ (c : TimesColumns) (room : Room) where
  -- one line
  module _ (k : ℕ) (l : List ℕ) (ls : List (List ℕ)) (f : Feed) (q : ℕ) where
    pub time_none : time_line c l ≡ None → times_from c room k (l ∷ ls) f q ≡ record { feed = f; end = bad_times k }
    unfolding times_from
    time_none e = rw (e, times_from)

    module _ {x : TimeLine} (e : time_line c l ≡ Some x) where
      pub time_goes : {g : Feed} → take_time room x f q ≡ kept g → times_from c room k (l ∷ ls) f q ≡ times_from c room (suc k) ls g x.sequence
      unfolding times_from
      time_goes h = rw (e, h, times_from)

      pub time_bad : take_time room x f q ≡ bad → times_from c room k (l ∷ ls) f q ≡ record { feed = f; end = bad_times k }
      unfolding times_from
      time_bad h = rw (e, h, times_from)

      pub time_full : take_time room x f q ≡ out_of_room → times_from c room k (l ∷ ls) f q ≡ record { feed = f; end = full }
      unfolding times_from
      time_full h = rw (e, h, times_from)

  -- the lines before, the line that ends it, and those behind
  pub data TimesStop (k : ℕ) (f : Feed) (q : ℕ) : List (List ℕ) → Got → Type 0 where
    at_end : {ls : List (List ℕ)} {g : Feed} {q' : ℕ} → TimesTaken c room ls f q g q' → TimesStop k f q ls (record { feed = g; end = done })
    at_none : {ls : List (List ℕ)} (l : List ℕ) (rest : List (List ℕ)) {g : Feed} {q' : ℕ} → TimesTaken c room ls f q g q' → time_line c l ≡ None
        → TimesStop k f q (ls ++ (l ∷ rest)) (record { feed = g; end = bad_times (k + length ls) })
    at_bad : {ls : List (List ℕ)} (l : List ℕ) (rest : List (List ℕ)) {g : Feed} {q' : ℕ} {x : TimeLine} → TimesTaken c room ls f q g q'
        → time_line c l ≡ Some x → take_time room x g q' ≡ bad
        → TimesStop k f q (ls ++ (l ∷ rest)) (record { feed = g; end = bad_times (k + length ls) })
    at_full : {ls : List (List ℕ)} (l : List ℕ) (rest : List (List ℕ)) {g : Feed} {q' : ℕ} {x : TimeLine} → TimesTaken c room ls f q g q'
        → time_line c l ≡ Some x → take_time room x g q' ≡ out_of_room → TimesStop k f q (ls ++ (l ∷ rest)) (record { feed = g; end = full })

  -- one line before
  stop_more : {k : ℕ} {f g : Feed} {q : ℕ} {l : List ℕ} {ls : List (List ℕ)} {x : TimeLine} {o : Got} → time_line c l ≡ Some x
      → take_time room x f q ≡ kept g → TimesStop (suc k) g x.sequence ls o → TimesStop k f q (l ∷ ls) o
  stop_more e h (at_end t) = at_end (times_more e h t)
  stop_more {k} {f} {g} {q} {l} e h (at_none {ls = ms} m rest t n) =
      let z : suc k + length ms ≡ k + length (l ∷ ms) = omega arith in
      rw z (at_none m rest (times_more e h t) n)
  stop_more {k} {f} {g} {q} {l} e h (at_bad {ls = ms} m rest t n b) =
      let z : suc k + length ms ≡ k + length (l ∷ ms) = omega arith in
      rw z (at_bad m rest (times_more e h t) n b)
  stop_more e h (at_full m rest t n b) = at_full m rest (times_more e h t) n b

  stop_step : (k : ℕ) (l : List ℕ) (ls : List (List ℕ)) (f : Feed) (q : ℕ)
      → ((g : Feed) (p : ℕ) → TimesStop (suc k) g p ls (times_from c room (suc k) ls g p)) → TimesStop k f q (l ∷ ls) (times_from c room k (l ∷ ls) f q)
  stop_step k l ls f q next =
      let z : k + 0 ≡ k = omega arith in
      either_there (time_line c l)
      (λ e.
      let y : TimesStop k f q (l ∷ ls) (record { feed = f; end = bad_times (k + 0) }) = at_none l ls no_times e in
      rw (time_none k l ls f q e) (rw z at y))
      (λ x e.
      took_cases (take_time room x f q)
      (λ g h. rw (time_goes k l ls f q e h) (stop_more e h (next g x.sequence)))
      (λ h.
      let y : TimesStop k f q (l ∷ ls) (record { feed = f; end = bad_times (k + 0) }) = at_bad l ls no_times e h in
      rw (time_bad k l ls f q e h) (rw z at y))
      (λ h. rw (time_full k l ls f q e h) (at_full l ls no_times e h)))

  pub times_stop : (k : ℕ) (ls : List (List ℕ)) (f : Feed) (q : ℕ) → TimesStop k f q ls (times_from c room k ls f q)
  unfolding times_from
  times_stop k [] f q = at_end no_times
  times_stop k (l ∷ ls) f q = stop_step k l ls f q (λ g p. times_stop (suc k) ls g p)

-- ---- transfers.txt
module _ (c : TransferColumns) (room : Room) where
  module _ (k : ℕ) (l : List ℕ) (ls : List (List ℕ)) (f : Feed) where
    pub transfer_none : transfer_line c l ≡ None → transfers_from c room k (l ∷ ls) f ≡ record { feed = f; end = bad_transfers k }
    unfolding transfers_from
    transfer_none e = rw (e, transfers_from)

    module _ {x : TransferLine} (e : transfer_line c l ≡ Some x) where
      pub transfer_goes : {g : Feed} → take_transfer room x f ≡ Some g → transfers_from c room k (l ∷ ls) f ≡ transfers_from c room (suc k) ls g
      unfolding transfers_from
      transfer_goes h = rw (e, h, transfers_from)

      pub transfer_full : take_transfer room x f ≡ None → transfers_from c room k (l ∷ ls) f ≡ record { feed = f; end = full }
      unfolding transfers_from
      transfer_full h = rw (e, h, transfers_from)

  pub data TransfersStop (k : ℕ) (f : Feed) : List (List ℕ) → Got → Type 0 where
    at_end : {ls : List (List ℕ)} {g : Feed} → TransfersTaken c room ls f g → TransfersStop k f ls (record { feed = g; end = done })
    at_none : {ls : List (List ℕ)} (l : List ℕ) (rest : List (List ℕ)) {g : Feed} → TransfersTaken c room ls f g → transfer_line c l ≡ None
        → TransfersStop k f (ls ++ (l ∷ rest)) (record { feed = g; end = bad_transfers (k + length ls) })
    at_full : {ls : List (List ℕ)} (l : List ℕ) (rest : List (List ℕ)) {g : Feed} {x : TransferLine} → TransfersTaken c room ls f g
        → transfer_line c l ≡ Some x → take_transfer room x g ≡ None → TransfersStop k f (ls ++ (l ∷ rest)) (record { feed = g; end = full })

  transfers_stop_more : {k : ℕ} {f g : Feed} {l : List ℕ} {ls : List (List ℕ)} {x : TransferLine} {o : Got} → transfer_line c l ≡ Some x
      → take_transfer room x f ≡ Some g → TransfersStop (suc k) g ls o → TransfersStop k f (l ∷ ls) o
  transfers_stop_more e h (at_end t) = at_end (transfers_more e h t)
  transfers_stop_more {k} {f} {g} {l} e h (at_none {ls = ms} m rest t n) =
      let z : suc k + length ms ≡ k + length (l ∷ ms) = omega arith in
      rw z (at_none m rest (transfers_more e h t) n)
  transfers_stop_more e h (at_full m rest t n b) = at_full m rest (transfers_more e h t) n b

  transfers_stop_step : (k : ℕ) (l : List ℕ) (ls : List (List ℕ)) (f : Feed)
      → ((g : Feed) → TransfersStop (suc k) g ls (transfers_from c room (suc k) ls g)) → TransfersStop k f (l ∷ ls) (transfers_from c room k (l ∷ ls) f)
  transfers_stop_step k l ls f next =
      let z : k + 0 ≡ k = omega arith in
      either_there (transfer_line c l)
      (λ e.
      let y : TransfersStop k f (l ∷ ls) (record { feed = f; end = bad_transfers (k + 0) }) = at_none l ls no_transfers e in
      rw (transfer_none k l ls f e) (rw z at y))
      (λ x e.
      either_there (take_transfer room x f)
      (λ h. rw (transfer_full k l ls f e h) (at_full l ls no_transfers e h))
      (λ g h. rw (transfer_goes k l ls f e h) (transfers_stop_more e h (next g))))

  pub transfers_stop : (k : ℕ) (ls : List (List ℕ)) (f : Feed) → TransfersStop k f ls (transfers_from c room k ls f)
  unfolding transfers_from
  transfers_stop k [] f = at_end no_transfers
  transfers_stop k (l ∷ ls) f = transfers_stop_step k l ls f (λ g. transfers_stop (suc k) ls g)
