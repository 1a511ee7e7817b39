-- "A writer puts the rows back ..; reading that gives the same tables."
-- Assumes nothing.
use Prim.Native.Nat.{◌≤◌}
use mathlib.Core.Path.{◌≡◌, refl, ap, ◌∙◌}
use mathlib.Core.List.{List, [], ◌∷◌}
use native.Mathlib.Omega.{arith}
use Rattle.base.specs.Tab.{tab}
use Rattle.csv_text.specs.Lines.{lines}
use Rattle.feed.specs.declared.Room.{Room}
use Rattle.feed.specs.Feed.{TimeRow, TransferRow, Feed, empty_feed}
use Rattle.feed.specs.Times.{times_under, read_times}
use Rattle.feed.specs.Transfers.{transfers_from, transfers_under, read_transfers}
use Rattle.feed.specs.Reading.{without_mark, transfers_after, read_feed}
use Rattle.feed.specs.Writing.{times_text, write_times, transfers_text, write_transfers}
use Rattle.feed.specs.Orderly.{Seen, none_seen, after_time, after_times, after_transfers, times_fault, Orderly}
use Rattle.feed.specs.Promised.{Countable, Rereads}
use Rattle.feed.proofs.Numbered.{first_names, names_length}
use Rattle.feed.proofs.Faultless.{seen_inside, time_right, times_first, times_rest}
use Rattle.feed.proofs.TimeTaken.{times_feed}
use Rattle.feed.proofs.TimesBack.{read_to, times_back}
use Rattle.feed.proofs.TransfersBack.{transfer_places, with_transfers, transfers_back}
use Rattle.feed.proofs.Headers.{times_header_lem, times_columns_lem, times_unmarked, transfers_header_lem, transfers_columns, transfers_unmarked}

none_yet : empty_feed ≡ times_feed none_seen []
unfolding times_feed first_names tab
none_yet = refl

-- what has appeared has room
stops_inside : (room : Room) (rs : List TimeRow) (s : Seen) → times_fault room s rs ≡ 0 → s.stops ≤ room.stops
    → (after_times s rs).stops ≤ room.stops
unfolding after_times after_time
stops_inside room [] s e h = h
stops_inside room (r ∷ rs) s e h =
    stops_inside room rs (after_time s r) (times_rest room s r rs e)
    (seen_inside room s.stops r.stop (time_right room s r (times_first room s r rs e)).stop_fits_lem h)

-- all that is read
read_back : List TimeRow → List TransferRow → Feed
read_back ts xs = let s = after_times none_seen ts in with_transfers (times_feed s ts) (after_transfers s.stops xs) xs

module _ (room : Room) (ts : List TimeRow) (xs : List TransferRow) (countable : Countable room) (orderly : Orderly room ts xs) where
  abbrev seen : Seen
  seen = after_times none_seen ts

  times_got : read_times room (lines (without_mark (write_times ts))) ≡ read_to (times_feed seen ts)
  unfolding read_times times_under write_times
  times_got =
      rw (times_unmarked (times_text ts 0 0), times_header_lem (times_text ts 0 0), times_columns_lem, none_yet)
      (times_back room countable 2 ts none_seen [] 0 orderly.times_right (omega arith) (omega (arith, orderly.few_times)) (omega arith))

  none_then : times_feed seen ts ≡ with_transfers (times_feed seen ts) seen.stops []
  unfolding times_feed with_transfers
  none_then = refl

  transfers_got : read_transfers room (lines (without_mark (write_transfers xs))) (times_feed seen ts) ≡ read_to (read_back ts xs)
  unfolding read_transfers transfers_under write_transfers read_back
  transfers_got =
      rw (transfers_unmarked (transfers_text xs), transfers_header_lem (transfers_text xs), transfers_columns)
      (ap (λ (f : Feed). transfers_from transfer_places room 2 (lines (transfers_text xs)) f) none_then
      ∙ transfers_back room countable (times_feed seen ts) 2 xs seen.stops [] orderly.transfers_right
      (stops_inside room ts none_seen orderly.times_right (omega arith)) (omega (arith, orderly.few_transfers)))

  both_got : read_feed room (write_times ts) (write_transfers xs) ≡ read_to (read_back ts xs)
  unfolding read_feed transfers_after
  both_got = ap (transfers_after room (write_transfers xs)) times_got ∙ transfers_got

pub written_reads : (room : Room) (ts : List TimeRow) (xs : List TransferRow) → Countable room → Orderly room ts xs
    → Rereads room ts xs (read_feed room (write_times ts) (write_transfers xs))
unfolding read_back with_transfers times_feed
written_reads room ts xs c o =
    let s = after_times none_seen ts in
    rw (both_got room ts xs c o)
    (record {
      ended = refl;
      times = refl;
      transfers = refl;
      stops = names_length (after_transfers s.stops xs);
      trips = names_length s.trips;
    })
