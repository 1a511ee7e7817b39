-- A line that is taken: what was tested of it, and the feed that it leads to.
-- Assumes nothing.
use Prim.Native.Nat.{ℕ, ◌-◌, ◌≤◌, ◌<◌}
use mathlib.Core.Path.{◌≡◌, refl}
use mathlib.Core.Bool.{Bool, true, false, cond, ◌&&◌}
use Rattle.std.specs.Prelude.{Some}
use mathlib.Core.List.{List, [], ◌∷◌, ◌++◌}
use native.Mathlib.Omega.{arith}
use lib.Dec.{ltb, leb}
use lib.ListN.{length}
use borrow.Author.Tests.{ltb-true, leb-true}
use Rattle.base.proofs.Choice.{split, and_left, and_right}
use Rattle.columns.specs.Picks.{is_named}
use Rattle.feed.specs.declared.Room.{Room}
use Rattle.feed.specs.Feed.{TimeRow, TransferRow, Feed, named, number_of}
use Rattle.feed.specs.Times.{TimeLine, Took, kept, bad, out_of_room, entered, is_last, take_time}
use Rattle.feed.specs.Transfers.{TransferLine, take_transfer}
use Rattle.feed.proofs.IfThere.{some_is, tested}

-- ---- stop_times.txt
module _ (room : Room) (x : TimeLine) (f : Feed) (q : ℕ) where
  -- the four ways of a line
  pub take_cases : {C : Type 0} {o : Took} → take_time room x f q ≡ o
      → (is_last f.trips x.trip ≡ true → ltb q x.sequence ≡ true → entered room x f.trips f ≡ o → C)
      → (is_last f.trips x.trip ≡ true → ltb q x.sequence ≡ false → bad ≡ o → C)
      → (is_last f.trips x.trip ≡ false → is_named x.trip f.trips ≡ false → entered room x (f.trips ++ (x.trip ∷ [])) f ≡ o → C)
      → (is_last f.trips x.trip ≡ false → is_named x.trip f.trips ≡ true → bad ≡ o → C) → C
  unfolding take_time
  take_cases e on still new back =
      split (is_last f.trips x.trip)
      (λ v. split (ltb q x.sequence) (λ w. on v w (rw (v, w) at e)) (λ w. still v w (rw (v, w) at e)))
      (λ v. split (is_named x.trip f.trips) (λ w. back v w (rw (v, w) at e)) (λ w. new v w (rw (v, w) at e)))

module _ (room : Room) (x : TimeLine) (trips : List (List ℕ)) (f : Feed) where
  -- the feed with the row
  abbrev pub time_row : TimeRow
  time_row = record { trip = length trips - 1; stop = number_of f.stops x.stop; arrival = x.arrival; departure = x.departure }

  abbrev pub with_time : Feed
  with_time = record { stops = named f.stops x.stop; trips = trips; times = f.times ++ (time_row ∷ []); transfers = f.transfers }

  pub record Entered (g : Feed) : Type 0 where
    pub trips_fit : length trips ≤ room.trips
    pub stops_fit : length (named f.stops x.stop) ≤ room.stops
    pub times_fit : length f.times < room.times
    pub now_is : with_time ≡ g

  pub entered_is : {g : Feed} → entered room x trips f ≡ kept g → Entered g
  unfolding entered
  entered_is {g} e = go (A && B && D) refl e
    where
      A : Bool
      A = leb (length trips) room.trips

      B : Bool
      B = leb (length (named f.stops x.stop)) room.stops

      D : Bool
      D = ltb (length f.times) room.times

      go : (b : Bool) → A && B && D ≡ b → cond b (kept with_time) out_of_room ≡ kept g → Entered g
      go true w h = record {
        trips_fit = leb-true (length trips) room.trips (and_left A B (and_left (A && B) D w));
        stops_fit = leb-true (length (named f.stops x.stop)) room.stops (and_right A B (and_left (A && B) D w));
        times_fit = ltb-true (length f.times) room.times (and_right (A && B) D w);
        now_is = cc;
      }
      go false w h = let z : ◌≡◌ {A = ℕ} 0 1 = cc in absurd (omega arith)

-- ---- transfers.txt
module _ (room : Room) (x : TransferLine) (f : Feed) where
  abbrev pub transfer_row : TransferRow
  transfer_row =
      record { from = number_of f.stops x.from; to = number_of (named f.stops x.from) x.to; kind = x.kind; span = x.span }

  abbrev pub with_transfer : Feed
  with_transfer = record {
    stops = named (named f.stops x.from) x.to;
    trips = f.trips;
    times = f.times;
    transfers = f.transfers ++ (transfer_row ∷ []);
  }

  pub record TransferEntered (g : Feed) : Type 0 where
    pub stops_fit : length (named (named f.stops x.from) x.to) ≤ room.stops
    pub transfers_fit : length f.transfers < room.transfers
    pub now_is : with_transfer ≡ g

  pub transfer_entered : {g : Feed} → take_transfer room x f ≡ Some g → TransferEntered g
  unfolding take_transfer
  transfer_entered {g} e =
      let A = leb (length (named (named f.stops x.from) x.to)) room.stops in
      let B = ltb (length f.transfers) room.transfers in
      let w = tested (A && B) (Some with_transfer) e in
      record {
        stops_fit = leb-true (length (named (named f.stops x.from) x.to)) room.stops (and_left A B w.0);
        transfers_fit = ltb-true (length f.transfers) room.transfers (and_right A B w.0);
        now_is = some_is w.1;
      }
