-- The stop times that are written are read as the rows.
-- Assumes nothing.
use Prim.Native.Nat.{ℕ, suc, ◌+◌, ◌≤◌}
use mathlib.Core.Path.{◌≡◌, sym, ap, ◌∙◌}
use Rattle.std.specs.Prelude.{Some}
use mathlib.Core.List.{List, [], ◌∷◌, ◌++◌, append-nil, append_assoc}
use native.Mathlib.Omega.{arith}
use lib.Dec.{eqb}
use lib.ListN.{length, length-append}
use Rattle.base.proofs.Choice.{split}
use Rattle.csv_text.specs.Lines.{lines}
use Rattle.csv_text.proofs.Stepping.{lines_none}
use Rattle.feed.specs.declared.Room.{Room}
use Rattle.feed.specs.declared.TimesColumns.{TimesColumns}
use Rattle.feed.specs.Feed.{TimeRow, Feed, done, Got}
use Rattle.feed.specs.Times.{TimeLine, time_line, kept, take_time, times_from}
use Rattle.feed.specs.Writing.{position_after, times_text}
use Rattle.feed.specs.Orderly.{Seen, after_time, times_fault, after_times}
use Rattle.feed.specs.Promised.{Countable}
use Rattle.feed.proofs.Faultless.{seen_inside, time_right, times_first, times_rest}
use Rattle.feed.proofs.TimeLines.{times_places, time_fields, time_first, time_read}
use Rattle.feed.proofs.TimeTaken.{times_feed, trips_after, row_taken_lem}

-- a position rises by one at most
position_next : (trips v last : ℕ) → position_after trips v last ≤ suc last
unfolding position_after
position_next trips v last = split (eqb (suc v) trips) (λ w. rw w (omega arith)) (λ w. rw w (omega arith))

from_kept : (c : TimesColumns) (room : Room) (k : ℕ) (l : List ℕ) (ls : List (List ℕ)) (f : Feed) (last : ℕ) {x : TimeLine} {g : Feed}
    → time_line c l ≡ Some x → take_time room x f last ≡ kept g → times_from c room k (l ∷ ls) f last ≡ times_from c room (suc k) ls g x.sequence
unfolding times_from
from_kept c room k l ls f last {x} {g} e q = rw (e, q, times_from)

-- the whole file is read
abbrev pub read_to : Feed → Got
read_to f = record { feed = f; end = done }

module _ (room : Room) (countable : Countable room) where
  pub times_back : (k : ℕ) (rs : List TimeRow) (s : Seen) (rows : List TimeRow) (last : ℕ) → times_fault room s rs ≡ 0 → s.stops ≤ room.stops
      → length rows + length rs ≤ room.times → last ≤ length rows
      → times_from times_places room k (lines (times_text rs s.trips last)) (times_feed s rows) last
      ≡ read_to (times_feed (after_times s rs) (rows ++ rs))
  unfolding times_from times_text after_times after_time
  times_back k [] s rows last e inside few low = rw (lines_none, append-nil rows)
  times_back k (r ∷ rs) s rows last e inside few low =
      let q = position_after s.trips r.trip last in
      let right = time_right room s r (times_first room s r rs e) in
      let p = position_next s.trips r.trip last in
      let more = length-append rows (r ∷ []) in
      let rest = times_text rs (suc r.trip) q in
      let next = times_feed (after_time s r) (rows ++ (r ∷ [])) in
      rw (time_first r q right.arrival right.departure rest)
      (from_kept times_places room k (time_fields r q) (lines rest) (times_feed s rows) last
      (time_read r q right.arrival right.departure (omega (arith, countable.times)))
      (row_taken_lem room countable s rows r right inside (omega arith) last)
      ∙ ap (λ (n : ℕ). times_from times_places room (suc k) (lines (times_text rs n q)) next q)
      (sym (trips_after room s.trips r.trip right.trip_fits_lem))
      ∙ times_back (suc k) rs (after_time s r) (rows ++ (r ∷ [])) q (times_rest room s r rs e)
      (seen_inside room s.stops r.stop right.stop_fits_lem inside) (omega arith) (omega arith)
      ∙ ap (λ (l : List TimeRow). read_to (times_feed (after_times (after_time s r) rs) l)) (append_assoc rows (r ∷ []) rs))
