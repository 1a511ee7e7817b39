-- The contract leaves nothing open but where a name's text stands: two readings of the same files into the same words are the same.
-- Assumes nothing.
use Prim.Native.Nat.{ℕ}
use mathlib.Core.Path.{◌≡◌, refl, sym, ap, ◌∙◌}
use mathlib.Core.Bool.{true, false}
use mathlib.Core.List.{List}
use Rattle.base.proofs.Choice.{split}
use Rattle.names.specs.declared.Shelf.{Shelf}
use Rattle.names.specs.Book.{names_in}
use Rattle.names.specs.Booked.{SameBook}
use Rattle.names.proofs.Booking.{booked_same}
use Rattle.gtfs_read.specs.declared.Told.{Told}
use Rattle.gtfs_read.specs.Reads.{LentFeed, is_too_long, Reads}
use Rattle.gtfs_promises.specs.Tables.{stop_book, trip_book, SameRead}
use Rattle.gtfs_promises.proofs.Keeps.{read_holds, stop_shelf, trip_shelf}

itself : {shelf : Shelf} {w : List ℕ} → SameBook shelf w w
itself = record { same_heads = λ b h. refl; same_nexts = λ i h. refl; same_behind = refl; same_length = refl }

module _ {a b : List ℕ} {l : LentFeed} {r : Told} {l' : LentFeed} (m : Reads a b l r l') {q : Told} {k' : LentFeed} (n : Reads a b l q k') where
  answer : r ≡ q
  answer = m.said ∙ sym n.said

  long_same : is_too_long a b ≡ true → SameRead a b l r l' q k'
  long_same s =
      let e : l' ≡ k' = m.refused s ∙ sym (n.refused s) in
      record {
        same_answer = answer;
        same_times_table = ap (λ (x : LentFeed). x.times) e;
        same_transfers_table = ap (λ (x : LentFeed). x.transfers) e;
        same_stop_names = ap (λ (x : LentFeed). names_in a b (stop_book l r) x.stops) e
            ∙ ap (λ (x : Told). names_in a b (stop_book l x) k'.stops) answer;
        same_trip_names = ap (λ (x : LentFeed). names_in a a (trip_book l r) x.trips) e
            ∙ ap (λ (x : Told). names_in a a (trip_book l x) k'.trips) answer;
        same_stop_book = rw e itself;
        same_trip_book = rw e itself;
      }

  short_same : is_too_long a b ≡ false → SameRead a b l r l' q k'
  short_same s =
      let h = read_holds m s in
      let g = read_holds n s in
      let u = m.read s in
      let v = n.read s in
      record {
        same_answer = answer;
        same_times_table = u.times_left ∙ sym v.times_left;
        same_transfers_table = u.transfers_left ∙ sym v.transfers_left;
        same_stop_names = h.stop_names ∙ sym g.stop_names;
        same_trip_names = h.trip_names ∙ sym g.trip_names;
        same_stop_book = rw (← stop_shelf m s) (booked_same u.stops_left_lem v.stops_left_lem);
        same_trip_book = rw (← trip_shelf m s) (booked_same u.trips_left_lem v.trips_left_lem);
      }

  pub read_once : SameRead a b l r l' q k'
  read_once = split (is_too_long a b) long_same short_same
