-- How each of the two files can end, and that stop_times.txt gives no transfers.
-- Assumes nothing.
use Prim.Native.Nat.{ℕ, zero, suc, ◌≤◌}
use mathlib.Core.Path.{◌≡◌, refl, sym, ap, ◌∙◌}
use mathlib.Core.Bool.{◌&&◌}
use Rattle.std.specs.Prelude.{Option, None, Some}
use mathlib.Core.List.{List, [], ◌∷◌, ◌++◌}
use native.Mathlib.Omega.{arith}
use lib.Dec.{ltb, leb}
use lib.ListN.{length, length-append}
use Rattle.base.proofs.Choice.{split}
use Rattle.csv_text.specs.There.{if_there}
use Rattle.csv_text.specs.Fields.{fields}
use Rattle.columns.specs.Picks.{is_named}
use Rattle.feed.specs.declared.Room.{Room}
use Rattle.feed.specs.declared.TimesColumns.{TimesColumns}
use Rattle.feed.specs.declared.TransferColumns.{TransferColumns}
use Rattle.feed.specs.Feed.{TransferRow, Feed, empty_feed, known_as, named_by, named, End, done, bad_times, bad_transfers, full, Got}
use Rattle.feed.specs.Columns.{times_columns, transfer_columns}
use Rattle.feed.specs.Times.{TimeLine, Took, kept, bad, out_of_room, time_line, entered, is_last, take_time, times_from, times_under, read_times}
use Rattle.feed.specs.Transfers.{TransferLine, transfer_line, take_transfer, transfers_from, transfers_under, read_transfers}

-- ---- transfers.txt
-- it is no line of stop_times.txt that is bad
pub data OfTransfers : End → Type 0 where
  all : OfTransfers done
  bad_line : (k : ℕ) → OfTransfers (bad_transfers k)
  no_room : OfTransfers full

-- a name more or none
named_longer : (names : List (List ℕ)) (t : List ℕ) → length names ≤ length (named names t)
unfolding named named_by
named_longer names t = go (known_as names t)
  where
    go : (k : ℕ) → length names ≤ length (named_by names t k)
    go zero = omega (arith, length-append names (t ∷ []))
    go (suc k) = omega arith

-- how it ends, and that no name is lost
record TransfersOnly (f : Feed) (g : Got) : Type 0 where
  ends : OfTransfers g.end
  more : length f.stops ≤ length g.feed.stops

taken_longer : (room : Room) (l : TransferLine) (f g : Feed) → take_transfer room l f ≡ Some g → length f.stops ≤ length g.stops
unfolding take_transfer
taken_longer room l f g e =
    let near = named f.stops l.from in
    split (leb (length (named near l.to)) room.stops && ltb (length f.transfers) room.transfers)
    (λ t. let z : length (named near l.to) ≡ length g.stops = ap stops_of (rw t at e) in
    omega (arith, named_longer f.stops l.from, named_longer near l.to))
    (λ t. let z : ◌≡◌ {A = Option Feed} None (Some g) = rw t at e in absurd (no_some z))
  where
    stops_of : Option Feed → ℕ
    stops_of None = 0
    stops_of (Some g) = length g.stops

    no_some : ◌≡◌ {A = Option Feed} None (Some g) → ⊥
    no_some z = let y : ◌≡◌ {A = ℕ} 0 1 = cc in omega arith

from_transfers : (c : TransferColumns) (room : Room) (k : ℕ) (ls : List (List ℕ)) (f : Feed) → TransfersOnly f (transfers_from c room k ls f)
unfolding transfers_from
from_transfers c room k [] f = record { ends = all; more = omega arith }
from_transfers c room k (l ∷ ls) f = go (λ g. from_transfers c room (suc k) ls g) (transfer_line c l)
  where
    next : ((g : Feed) → TransfersOnly g (transfers_from c room (suc k) ls g)) → (x : TransferLine) (o : Option Feed) → take_transfer room x f ≡ o
        → TransfersOnly f (elim o [ None ↦ record { feed = f; end = full } | Some g ↦ transfers_from c room (suc k) ls g ])
    next rest x None e = record { ends = no_room; more = omega arith }
    next rest x (Some g) e =
        let r = rest g in record { ends = r.ends; more = omega (arith, r.more, taken_longer room x f g e) }

    go : ((g : Feed) → TransfersOnly g (transfers_from c room (suc k) ls g)) → (o : Option TransferLine)
        → TransfersOnly f (elim o [ None ↦ record { feed = f; end = bad_transfers k } | Some x ↦ elim (take_transfer room x f) [ None ↦ record { feed = f; end = full } | Some g ↦ transfers_from c room (suc k) ls g ] ])
    go rest None = record { ends = bad_line k; more = omega arith }
    go rest (Some x) = next rest x (take_transfer room x f) refl

transfers_only : (room : Room) (ls : List (List ℕ)) (f : Feed) → TransfersOnly f (read_transfers room ls f)
unfolding read_transfers transfers_under
transfers_only room [] f = record { ends = bad_line 1; more = omega arith }
transfers_only room (h ∷ ls) f = go (if_there (fields h) transfer_columns)
  where
    go : (o : Option TransferColumns) → TransfersOnly f (transfers_under room o ls f)
    go None = record { ends = bad_line 1; more = omega arith }
    go (Some c) = from_transfers c room 2 ls f

pub of_transfers : (room : Room) (ls : List (List ℕ)) (f : Feed) → OfTransfers (read_transfers room ls f).end
of_transfers room ls f = (transfers_only room ls f).ends

pub stops_stay : (room : Room) (ls : List (List ℕ)) (f : Feed) → length f.stops ≤ length (read_transfers room ls f).feed.stops
stops_stay room ls f = (transfers_only room ls f).more

-- ---- stop_times.txt
pub data OfTimes : End → Type 0 where
  all : OfTimes done
  bad_line : (k : ℕ) → OfTimes (bad_times k)
  no_room : OfTimes full

-- how it ends, and that it has no transfers
record TimesOnly (f : Feed) (g : Got) : Type 0 where
  ends : OfTimes g.end
  same : g.feed.transfers ≡ f.transfers

entered_same : (room : Room) (l : TimeLine) (trips : List (List ℕ)) (f g : Feed) → entered room l trips f ≡ kept g → g.transfers ≡ f.transfers
unfolding entered
entered_same room l trips f g e =
    split (leb (length trips) room.trips && leb (length (named f.stops l.stop)) room.stops && ltb (length f.times) room.times)
    (λ t. sym (ap transfers_of (rw t at e)))
    (λ t. let z : ◌≡◌ {A = Took} out_of_room (kept g) = rw t at e in absurd (no_kept z))
  where
    transfers_of : Took → List TransferRow
    transfers_of (kept g) = g.transfers
    transfers_of bad = []
    transfers_of out_of_room = []

    no_kept : out_of_room ≡ kept g → ⊥
    no_kept z = let y : ◌≡◌ {A = ℕ} 0 1 = cc in omega arith

take_same : (room : Room) (l : TimeLine) (f g : Feed) (q : ℕ) → take_time room l f q ≡ kept g → g.transfers ≡ f.transfers
unfolding take_time
take_same room l f g q e =
    split (is_last f.trips l.trip)
    (λ t. split (ltb q l.sequence)
    (λ u. entered_same room l f.trips f g (rw (t, u) at e))
    (λ u. let z : bad ≡ kept g = rw (t, u) at e in absurd (no_kept z)))
    (λ t. split (is_named l.trip f.trips)
    (λ u. let z : bad ≡ kept g = rw (t, u) at e in absurd (no_kept z))
    (λ u. entered_same room l (f.trips ++ (l.trip ∷ [])) f g (rw (t, u) at e)))
  where
    no_kept : bad ≡ kept g → ⊥
    no_kept z = let y : ◌≡◌ {A = ℕ} 0 1 = cc in omega arith

from_only : (c : TimesColumns) (room : Room) (k : ℕ) (ls : List (List ℕ)) (f : Feed) (q : ℕ) → TimesOnly f (times_from c room k ls f q)
unfolding times_from
from_only c room k [] f q = record { ends = all; same = refl }
from_only c room k (l ∷ ls) f q = go (λ g r. from_only c room (suc k) ls g r) (time_line c l)
  where
    next : ((g : Feed) (r : ℕ) → TimesOnly g (times_from c room (suc k) ls g r)) → (x : TimeLine) (o : Took) → take_time room x f q ≡ o
        → TimesOnly f (elim o [ kept g ↦ times_from c room (suc k) ls g x.sequence | bad ↦ record { feed = f; end = bad_times k } | out_of_room ↦ record { feed = f; end = full } ])
    next rest x (kept g) e =
        let r = rest g x.sequence in record { ends = r.ends; same = r.same ∙ take_same room x f g q e }
    next rest x bad e = record { ends = bad_line k; same = refl }
    next rest x out_of_room e = record { ends = no_room; same = refl }

    go : ((g : Feed) (r : ℕ) → TimesOnly g (times_from c room (suc k) ls g r)) → (o : Option TimeLine)
        → TimesOnly f (elim o [ None ↦ record { feed = f; end = bad_times k } | Some x ↦ elim (take_time room x f q) [ kept g ↦ times_from c room (suc k) ls g x.sequence | bad ↦ record { feed = f; end = bad_times k } | out_of_room ↦ record { feed = f; end = full } ] ])
    go rest None = record { ends = bad_line k; same = refl }
    go rest (Some x) = next rest x (take_time room x f q) refl

times_only : (room : Room) (ls : List (List ℕ)) → TimesOnly empty_feed (read_times room ls)
unfolding read_times times_under
times_only room [] = record { ends = bad_line 1; same = refl }
times_only room (h ∷ ls) = go (if_there (fields h) times_columns)
  where
    go : (o : Option TimesColumns) → TimesOnly empty_feed (times_under room o ls)
    go None = record { ends = bad_line 1; same = refl }
    go (Some c) = from_only c room 2 ls empty_feed 0

pub of_times : (room : Room) (ls : List (List ℕ)) → OfTimes (read_times room ls).end
of_times room ls = (times_only room ls).ends

pub no_transfers : (room : Room) (ls : List (List ℕ)) → (read_times room ls).feed.transfers ≡ []
no_transfers room ls = (times_only room ls).same
