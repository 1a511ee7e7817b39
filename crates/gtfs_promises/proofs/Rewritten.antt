-- Words and buffers that meet what the promises of the writers and of the round trip suppose, by computation.
-- Assumes nothing.
use Prim.Native.Nat.{ℕ}
use mathlib.Core.Path.{◌≡◌, refl, sym, ap, subst, ◌∙◌}
use mathlib.Core.List.{List, [], ◌∷◌}
use native.Mathlib.Omega.{arith}
use lib.ListN.{take}
use Rattle.base.specs.Tab.{tab}
use Rattle.base.proofs.Tab.{tab_length}
use Rattle.numbers.specs.Decimal.{digits_in, digits}
use Rattle.numbers.specs.Clock.{two_digits, clock_text}
use Rattle.feed.specs.Columns.{trip_id, arrival_time, departure_time, stop_id, stop_sequence, from_stop_id, to_stop_id, transfer_type, min_transfer_time}
use Rattle.feed.specs.Orderly.{seen_after, stop_fits, trip_fits, is_moment, time_fault, after_time, times_fault, after_times, fits_span}
use Rattle.feed.specs.Orderly.{transfer_fault, after_transfer, transfers_fault, after_transfers, Orderly}
use Rattle.feed.specs.Rows.{fours_in, flat_by, time_with, time_words, time_rows_in, flat_times, transfer_with, transfer_words, transfer_rows_in, flat_transfers}
use Rattle.feed.specs.Writing.{line_with, position_after, time_text, times_text, times_header, write_times, span_text, transfer_text}
use Rattle.feed.specs.Writing.{transfers_text, transfers_header, write_transfers}
use Rattle.gtfs_read.specs.declared.Told.{Told}
use Rattle.gtfs_read.specs.Reads.{LentFeed, lent_feed, Reads}
use Rattle.std.specs.Prelude.{Ok}
use Rattle.gtfs_write.specs.declared.Unwritten.{Unwritten}
use Rattle.gtfs_write.specs.Written.{LIMITS, whole_rows, answered, held_after}
use Rattle.gtfs_write_times.specs.WrittenTimes.{written_times}
use Rattle.gtfs_write_transfers.specs.WrittenTransfers.{written_transfers}
use Rattle.gtfs_promises.specs.Tables.{time_words_read, transfer_words_read, stops_in, trips_in, stops_in_both, WroteTimes, WroteTransfers}
use Rattle.gtfs_promises.specs.Tables.{GivesBack, SameTables, FullSize}
use Rattle.gtfs_promises.proofs.Keeps.{short_test, read_holds}
use Rattle.gtfs_promises.proofs.InOrder.{read_in_order}
use Rattle.gtfs_promises.proofs.Back.{written_orderly, written_gives_back, round_trip}
use Rattle.gtfs_promises.proofs.Witness.{RIDES, WALKS, lent_for, rides_read, walks_read, short_rides}

-- ---- the words of the worked files
abbrev pub RIDE_WORDS : List ℕ
RIDE_WORDS = 0 ∷ 0 ∷ 115_200 ∷ 115_500 ∷ 0 ∷ 1 ∷ 115_800 ∷ 115_800 ∷ []

abbrev pub WALK_WORDS : List ℕ
WALK_WORDS = 1 ∷ 2 ∷ 2 ∷ 60 ∷ []

-- ---- the writers take them
two_stops : stops_in RIDE_WORDS ≡ 2
unfolding stops_in time_rows_in fours_in time_with after_times after_time seen_after
two_stops = refl

three_counted : stops_in_both RIDE_WORDS WALK_WORDS ≡ 3
unfolding stops_in_both stops_in time_rows_in fours_in time_with after_times after_time seen_after transfer_rows_in transfer_with after_transfers after_transfer
three_counted = refl

one_counted : trips_in RIDE_WORDS ≡ 1
unfolding trips_in time_rows_in fours_in time_with after_times after_time seen_after
one_counted = refl

rides_written : written_times RIDE_WORDS 200 ≡ Ok 106
unfolding written_times answered whole_rows times_fault time_fault stop_fits trip_fits is_moment after_time seen_after time_rows_in fours_in time_with write_times
    times_header times_text time_text position_after line_with digits digits_in clock_text two_digits trip_id arrival_time departure_time stop_id stop_sequence
rides_written = refl

walks_written : written_transfers WALK_WORDS 2 200 ≡ Ok 65
unfolding written_transfers answered whole_rows transfers_fault transfer_fault stop_fits fits_span after_transfer seen_after transfer_rows_in fours_in
    transfer_with write_transfers transfers_header transfers_text transfer_text span_text line_with digits digits_in from_stop_id to_stop_id transfer_type
    min_transfer_time
walks_written = refl

abbrev pub PAGE : List ℕ
PAGE = tab (λ (i : ℕ). 0) 200 0

abbrev pub RIDES_PAGE : List ℕ
RIDES_PAGE = held_after {E = Unwritten} (Ok 106) PAGE (write_times (time_rows_in RIDE_WORDS))

abbrev pub WALKS_PAGE : List ℕ
WALKS_PAGE = held_after {E = Unwritten} (Ok 65) PAGE (write_transfers (transfer_rows_in WALK_WORDS))

pub rides_wrote : WroteTimes RIDE_WORDS PAGE (Ok 106) RIDES_PAGE
rides_wrote = record { said = rw (tab_length {A = ℕ} (λ i. 0) 200 0) (sym rides_written); held = refl }

pub walks_wrote : WroteTransfers WALK_WORDS (stops_in RIDE_WORDS) PAGE (Ok 65) WALKS_PAGE
walks_wrote = record { said = rw (two_stops, tab_length {A = ℕ} (λ i. 0) 200 0) (sym walks_written); held = refl }

-- and they are in order
pub words_orderly : Orderly LIMITS (time_rows_in RIDE_WORDS) (transfer_rows_in WALK_WORDS)
words_orderly = written_orderly rides_wrote walks_wrote

-- ---- words that have room for all
abbrev pub ALL_LENT : LentFeed
ALL_LENT = lent_feed (tab (λ i. 0) 1_048_576 0) (tab (λ i. 0) 65_536 0) (tab (λ i. 0) 16_384 0) (tab (λ i. 0) 65_536 0)

pub all_lent : FullSize ALL_LENT
all_lent = record {
  times_room = rw (tab_length {A = ℕ} (λ i. 0) 1_048_576 0) (omega arith);
  transfers_room = rw (tab_length {A = ℕ} (λ i. 0) 65_536 0) (omega arith);
  stops_room = rw (tab_length {A = ℕ} (λ i. 0) 16_384 0) (omega arith);
  trips_room = rw (tab_length {A = ℕ} (λ i. 0) 65_536 0) (omega arith);
}

-- `written_gives_back`, applied
pub words_return : {r : Told} {l' : LentFeed} → Reads (take 106 RIDES_PAGE) (take 65 WALKS_PAGE) ALL_LENT r l' → GivesBack RIDE_WORDS WALK_WORDS r l'
words_return m = written_gives_back rides_wrote walks_wrote all_lent m

-- ---- the worked files, read, written and read again
module _ {r : Told} {l' : LentFeed} (m : Reads RIDES WALKS (lent_for 3) r l') where
  pub rides_words : time_words_read r l' ≡ RIDE_WORDS
  unfolding flat_times flat_by time_words
  rides_words = (read_holds m (short_test short_rides)).time_rows ∙ ap flat_times rides_read

  pub walks_words : transfer_words_read r l' ≡ WALK_WORDS
  unfolding flat_transfers flat_by transfer_words
  walks_words = (read_holds m (short_test short_rides)).transfer_rows ∙ ap flat_transfers walks_read

  first : WroteTimes (time_words_read r l') PAGE (Ok 106) RIDES_PAGE
  first = subst (λ (w : List ℕ). WroteTimes w PAGE (Ok 106) RIDES_PAGE) (sym rides_words) rides_wrote

  second : WroteTransfers (transfer_words_read r l') r.split PAGE (Ok 65) WALKS_PAGE
  second =
      let e : r.split ≡ stops_in RIDE_WORDS = (read_in_order m).split_named ∙ ap stops_in rides_words in
      subst (λ (n : ℕ). WroteTransfers (transfer_words_read r l') n PAGE (Ok 65) WALKS_PAGE) (sym e)
      (subst (λ (w : List ℕ). WroteTransfers w (stops_in RIDE_WORDS) PAGE (Ok 65) WALKS_PAGE) (sym walks_words) walks_wrote)

  -- the promises of names are about three stops and a trip
  pub three_stops : r.stops ≡ 3
  three_stops = (read_in_order m).stops_named ∙ rw (rides_words, walks_words) three_counted

  pub one_trip : r.trips ≡ 1
  one_trip = (read_in_order m).trips_named ∙ rw rides_words one_counted

  -- `round_trip`, applied
  pub rides_return : {r' : Told} {k' : LentFeed} → Reads (take 106 RIDES_PAGE) (take 65 WALKS_PAGE) (lent_for 3) r' k' → SameTables r l' r' k'
  rides_return again =
      round_trip m first second again (record { times_size = refl; transfers_size = refl; stops_size = refl; trips_size = refl })
