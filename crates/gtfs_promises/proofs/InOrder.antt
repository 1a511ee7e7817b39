-- What was read is in order: the rows read back as they are, no name stands twice, every table is within its room.
-- Assumes nothing.
use Prim.Native.Nat.{ℕ}
use mathlib.Core.Path.{◌≡◌, refl, sym, ap, ◌∙◌}
use mathlib.Core.Bool.{true, false}
use mathlib.Core.List.{List, []}
use native.Mathlib.Omega.{arith}
use Rattle.base.proofs.Choice.{split}
use Rattle.feed.specs.declared.Room.{Room}
use Rattle.feed.specs.Feed.{TimeRow, TransferRow, Feed}
use Rattle.feed.specs.Orderly.{none_seen, after_times, times_fault, transfers_fault, after_transfers, Orderly}
use Rattle.feed.specs.Rows.{fours_in, time_rows_in, transfer_rows_in}
use Rattle.feed.proofs.Rows.{times_flat, flat_times_length, transfers_flat, flat_transfers_length}
use Rattle.feed.proofs.Faithful.{read_says_times, read_says_transfers}
use Rattle.feed.proofs.Standing.{read_orderly, read_tallies, stops_once, trips_once, within_room}
use Rattle.gtfs_read.specs.declared.Told.{Told}
use Rattle.gtfs_read.specs.Reads.{LentFeed, feed_room, is_too_long, refused_long, Reads}
use Rattle.gtfs_promises.specs.Answers.{BothShort}
use Rattle.gtfs_promises.specs.Tables.{time_words_read, transfer_words_read, ReadUntil, stops_in, trips_in, stops_in_both, InOrderRead, RightFeed}
use Rattle.gtfs_promises.proofs.Keeps.{short_test, long_told, given, stops_told, split_told, trips_told, times_told, transfers_told, read_holds}
use Rattle.gtfs_promises.proofs.Splits.{split_counts}

-- ---- no rows
none_orderly : (room : Room) → Orderly room (time_rows_in []) (transfer_rows_in [])
unfolding time_rows_in transfer_rows_in fours_in times_fault transfers_fault
none_orderly room = record { few_times = omega arith; few_transfers = omega arith; times_right = refl; transfers_right = refl }

none_split : stops_in [] ≡ 0
unfolding stops_in time_rows_in fours_in after_times
none_split = refl

none_trips : trips_in [] ≡ 0
unfolding trips_in time_rows_in fours_in after_times
none_trips = refl

none_stops : stops_in_both [] [] ≡ 0
unfolding stops_in_both stops_in time_rows_in transfer_rows_in fours_in after_times after_transfers
none_stops = refl

module _ {a b : List ℕ} {l : LentFeed} {r : Told} {l' : LentFeed} (m : Reads a b l r l') where
  module _ (s : is_too_long a b ≡ false) where
    abbrev got : Feed
    got = (given m s).feed

    rows : time_rows_in (time_words_read r l') ≡ got.times
    rows = rw (read_holds m s).time_rows (times_flat got.times)

    paths : transfer_rows_in (transfer_words_read r l') ≡ got.transfers
    paths = rw (read_holds m s).transfer_rows (transfers_flat got.transfers)

    short_order : InOrderRead l r l'
    unfolding stops_in trips_in stops_in_both
    short_order =
        let h = read_holds m s in
        let t = read_tallies (feed_room l) a b in
        record {
          orderly = rw (rows, paths) (read_orderly (feed_room l) a b);
          times_long = rw (h.time_rows, times_told m s) (flat_times_length got.times);
          transfers_long = rw (h.transfer_rows, transfers_told m s) (flat_transfers_length got.transfers);
          stops_named = stops_told m s ∙ t.stops
              ∙ ap (λ (q : List TimeRow). after_transfers (after_times none_seen q).stops got.transfers) (sym rows)
              ∙ ap (λ (q : List TransferRow). after_transfers (after_times none_seen (time_rows_in (time_words_read r l'))).stops q) (sym paths);
          split_named = split_told m s ∙ split_counts (feed_room l) a b ∙ ap (λ (q : List TimeRow). (after_times none_seen q).stops) (sym rows);
          trips_named = trips_told m s ∙ t.trips ∙ ap (λ (q : List TimeRow). (after_times none_seen q).trips) (sym rows);
          stops_fit = rw (stops_told m s) (within_room (feed_room l) a b).stops;
          trips_fit = rw (trips_told m s) (within_room (feed_room l) a b).trips;
          times_fit = rw (times_told m s) (within_room (feed_room l) a b).times;
          transfers_fit = rw (transfers_told m s) (within_room (feed_room l) a b).transfers;
        }

  no_times : r ≡ refused_long → time_words_read r l' ≡ []
  unfolding time_words_read refused_long
  no_times e = rw e

  no_transfers : r ≡ refused_long → transfer_words_read r l' ≡ []
  unfolding transfer_words_read refused_long
  no_transfers e = rw e

  long_order : is_too_long a b ≡ true → InOrderRead l r l'
  unfolding refused_long
  long_order s =
      let e = long_told m s in
      let t : r.times ≡ 0 = ap (λ (x : Told). x.times) e in
      let p : r.transfers ≡ 0 = ap (λ (x : Told). x.transfers) e in
      let n : r.stops ≡ 0 = ap (λ (x : Told). x.stops) e in
      let q : r.split ≡ 0 = ap (λ (x : Told). x.split) e in
      let v : r.trips ≡ 0 = ap (λ (x : Told). x.trips) e in
      record {
        orderly = rw (no_times e, no_transfers e) (none_orderly (feed_room l));
        times_long = rw (no_times e) (omega (arith, t));
        transfers_long = rw (no_transfers e) (omega (arith, p));
        stops_named = rw (no_times e, no_transfers e, none_stops) n;
        split_named = rw (no_times e, none_split) q;
        trips_named = rw (no_times e, none_trips) v;
        stops_fit = omega (arith, n);
        trips_fit = omega (arith, v);
        times_fit = omega (arith, t);
        transfers_fit = omega (arith, p);
      }

  pub read_in_order : InOrderRead l r l'
  read_in_order = split (is_too_long a b) long_order short_order

  -- what is left of files that are not too long: rows that say their lines, and nothing else is touched
  pub read_leaves : BothShort a b → ReadUntil (RightFeed (feed_room l) a b) a b l r l'
  read_leaves h =
      let s = short_test h in
      record {
        short = h;
        feed = (given m s).feed;
        how = record {
          time_lines = read_says_times (feed_room l) a b;
          transfer_lines = read_says_transfers (feed_room l) a b;
          rows_orderly = read_orderly (feed_room l) a b;
          stops_once = stops_once (feed_room l) a b;
          trips_once = trips_once (feed_room l) a b;
          in_room = within_room (feed_room l) a b;
        };
        left = read_holds m s;
      }
