-- Trips and stop times play no part in what is read of transfers.txt.
-- Assumes nothing.
use Prim.Native.Nat.{ℕ, suc}
use mathlib.Core.Path.{◌≡◌, refl, sym, ap, ◌∙◌}
use mathlib.Core.Bool.{◌&&◌}
use Rattle.std.specs.Prelude.{Option, None, Some}
use mathlib.Core.List.{List, [], ◌∷◌}
use lib.Dec.{ltb, leb}
use lib.ListN.{length}
use Rattle.base.proofs.Choice.{split}
use Rattle.csv_text.specs.There.{if_there}
use Rattle.csv_text.specs.Fields.{fields}
use Rattle.csv_text.specs.Lines.{lines}
use Rattle.names.specs.Booked.{Booked}
use Rattle.feed.specs.declared.Room.{Room}
use Rattle.feed.specs.declared.TransferColumns.{TransferColumns}
use Rattle.feed.specs.Feed.{TimeRow, Feed, named, Got}
use Rattle.feed.specs.Columns.{transfer_columns}
use Rattle.feed.specs.Transfers.{TransferLine, transfer_line, take_transfer, transfers_from, transfers_under, read_transfers}
use Rattle.feed.specs.Reading.{without_mark}
use Rattle.feed.proofs.Stopping.{transfer_none, transfer_full, transfer_goes}
use Rattle.gtfs_transfers.specs.Told.{stops_only, first_shelf, transfers_read}

-- ---- with these trips and stop times
abbrev bearing : List (List ℕ) → List TimeRow → Feed → Feed
bearing trips times f = record { stops = f.stops; trips = trips; times = times; transfers = f.transfers }

abbrev pub carried : List (List ℕ) → List TimeRow → Got → Got
carried trips times g =
    record { feed = record { stops = g.feed.stops; trips = trips; times = times; transfers = g.feed.transfers }; end = g.end }

module _ (trips : List (List ℕ)) (times : List TimeRow) where
  maybe : Option Feed → Option Feed
  maybe None = None
  maybe (Some g) = Some (bearing trips times g)

  take_carried : (room : Room) (l : TransferLine) (f : Feed) → take_transfer room l (bearing trips times f) ≡ maybe (take_transfer room l f)
  unfolding take_transfer maybe
  take_carried room l f =
      split (leb (length (named (named f.stops l.from) l.to)) room.stops && ltb (length f.transfers) room.transfers)
      (λ t. rw t)
      (λ t. rw t)

  from_carried : (c : TransferColumns) (room : Room) (k : ℕ) (ls : List (List ℕ)) (f : Feed)
      → transfers_from c room k ls (bearing trips times f) ≡ carried trips times (transfers_from c room k ls f)
  unfolding transfers_from maybe
  from_carried c room k [] f = refl
  from_carried c room k (l ∷ ls) f = line (λ g. from_carried c room (suc k) ls g) (transfer_line c l) refl
    where
      row : ((g : Feed) → transfers_from c room (suc k) ls (bearing trips times g) ≡ carried trips times (transfers_from c room (suc k) ls g))
          → (x : TransferLine) → transfer_line c l ≡ Some x → (o : Option Feed) → take_transfer room x f ≡ o
          → transfers_from c room k (l ∷ ls) (bearing trips times f) ≡ carried trips times (transfers_from c room k (l ∷ ls) f)
      row more x e None q =
          transfer_full c room k l ls (bearing trips times f) e (take_carried room x f ∙ ap maybe q)
          ∙ ap (carried trips times) (sym (transfer_full c room k l ls f e q))
      row more x e (Some g) q =
          transfer_goes c room k l ls (bearing trips times f) e (take_carried room x f ∙ ap maybe q)
          ∙ more g
          ∙ ap (carried trips times) (sym (transfer_goes c room k l ls f e q))

      line : ((g : Feed) → transfers_from c room (suc k) ls (bearing trips times g) ≡ carried trips times (transfers_from c room (suc k) ls g))
          → (o : Option TransferLine) → transfer_line c l ≡ o
          → transfers_from c room k (l ∷ ls) (bearing trips times f) ≡ carried trips times (transfers_from c room k (l ∷ ls) f)
      line more None e =
          transfer_none c room k l ls (bearing trips times f) e ∙ ap (carried trips times) (sym (transfer_none c room k l ls f e))
      line more (Some x) e = row more x e (take_transfer room x f) refl

  under_carried : (room : Room) (o : Option TransferColumns) (ls : List (List ℕ)) (f : Feed)
      → transfers_under room o ls (bearing trips times f) ≡ carried trips times (transfers_under room o ls f)
  unfolding transfers_under
  under_carried room None ls f = refl
  under_carried room (Some c) ls f = from_carried c room 2 ls f

  all_carried : (room : Room) (ls : List (List ℕ)) (f : Feed)
      → read_transfers room ls (bearing trips times f) ≡ carried trips times (read_transfers room ls f)
  unfolding read_transfers
  all_carried room [] f = refl
  all_carried room (h ∷ ls) f = under_carried room (if_there (fields h) transfer_columns) ls f

-- what is read behind a feed that has no transfers yet, whose stops are those of the book
pub transfers_carried : {first w s : List ℕ} {counted : ℕ} (room : Room) (second : List ℕ) (f : Feed)
    → Booked first first (first_shelf room counted) w s f.stops → f.transfers ≡ []
    → read_transfers room (lines (without_mark second)) f ≡ carried f.trips f.times (transfers_read room counted first second s)
unfolding transfers_read
transfers_carried room second f k e =
    let z : f ≡ bearing f.trips f.times (stops_only f.stops) =
    λ i. record { stops = f.stops; trips = f.trips; times = f.times; transfers = e i } in
    ap (read_transfers room (lines (without_mark second))) z
    ∙ all_carried f.trips f.times room (lines (without_mark second)) (stops_only f.stops)
    ∙ rw k.texts
