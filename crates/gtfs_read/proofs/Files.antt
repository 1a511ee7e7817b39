-- The two files together: what each of them tells and leaves is what both do.
-- Assumes nothing.
use Prim.Native.Nat.{ℕ, ◌≤◌}
use mathlib.Core.Path.{◌≡◌, refl, sym, ap, subst, ◌∙◌}
use mathlib.Core.Bool.{true, false}
use mathlib.Core.List.{List}
use lib.ListN.{length}
use Rattle.base.specs.Put.{with_bytes}
use Rattle.csv_text.specs.Lines.{lines}
use Rattle.names.specs.Book.{names_in}
use Rattle.names.specs.Booked.{Booked}
use Rattle.names.proofs.Booking.{booked_turn}
use Rattle.feed.specs.declared.Room.{Room}
use Rattle.feed.specs.declared.Unread.TheVariants.{Bad}
use Rattle.std.specs.Prelude.{Err, is_err}
use Rattle.gtfs_read.specs.declared.File.TheVariants.{StopTimes, Transfers}
use Rattle.feed.specs.Feed.{End, done, bad_times, bad_transfers, full}
use Rattle.feed.specs.Times.{read_times}
use Rattle.feed.specs.Reading.{without_mark, transfers_after, read_feed}
use Rattle.feed.specs.Rows.{flat_by, flat_transfers}
use Rattle.feed.specs.Ending.{ending_of}
use Rattle.gtfs_rows.proofs.Naming.{booked_on}
use Rattle.gtfs_times.specs.declared.TimesTold.{TimesTold}
use Rattle.gtfs_times.specs.Told.{times_told, stops_left, trips_left, TimesLeft}
use Rattle.gtfs_transfers.specs.declared.TransfersTold.{TransfersTold}
use Rattle.gtfs_transfers.specs.Told.{transfers_told, stops_only, first_shelf, transfers_read, paths_left, TransfersLeft, PathsLent}
use Rattle.gtfs_read.specs.declared.Told.{Told}
use Rattle.gtfs_read.specs.Reads.{lent_feed, ended_as, told_by, split_of, stops_shelf, trips_shelf, Left}
use Rattle.gtfs_read.specs.Parts.{ended_in, first_told, told_both, FilesLent}
use Rattle.gtfs_read.proofs.Carried.{carried, transfers_carried}
use Rattle.gtfs_read.proofs.Beside.{OfTimes, OfTransfers, of_times, of_transfers, stops_stay, no_transfers}

ends_second : (z : End) → OfTransfers z → ended_in Transfers (ending_of z) ≡ ended_as z
unfolding ended_in ending_of ended_as
ends_second done OfTransfers.all = refl
ends_second (bad_times _) x'' = elim x'' [ ]
ends_second (bad_transfers k) (OfTransfers.bad_line j) = refl
ends_second full OfTransfers.no_room = refl

-- so what is told of both files under an ending of the second
told_is : (first : TimesTold) (second : TransfersTold) (z : End) → OfTransfers z → second.ending ≡ ending_of z
    → told_both first second
    ≡ record {
      ending = ended_as z;
      stops = second.stops;
      split = first.stops;
      trips = first.trips;
      times = first.times;
      transfers = second.transfers;
    }
told_is first second z o e = rw (e, ends_second z o)

ends_first : (z : End) → OfTimes z → ended_in StopTimes (ending_of z) ≡ ended_as z
unfolding ended_in ending_of ended_as
ends_first done OfTimes.all = refl
ends_first (bad_times k) (OfTimes.bad_line j) = refl
ends_first (bad_transfers _) x'' = elim x'' [ ]
ends_first full OfTimes.no_room = refl

module _ (room : Room) (a b : List ℕ) {first : TimesTold} (f : first ≡ times_told (read_times room (lines (without_mark a)))) where
  -- ---- the first file is refused
  first_ended : first.ending ≡ ending_of (read_times room (lines (without_mark a))).end
  unfolding times_told
  first_ended = ap (λ (t : TimesTold). t.ending) f

  is_bad : {k : ℕ} → first.ending ≡ Err (Bad k) → (read_times room (lines (without_mark a))).end ≡ bad_times k
  unfolding ending_of
  is_bad {k} q = go (read_times room (lines (without_mark a))).end (of_times room (lines (without_mark a))) (sym first_ended ∙ q)
    where
      go : (z : End) → OfTimes z → ending_of z ≡ Err (Bad k) → z ≡ bad_times k
      go done OfTimes.all w = cc
      go (bad_transfers _) x3 w = elim x3 [ ]
      go (bad_times j) (OfTimes.bad_line j') w = let n : j ≡ k = cc in ap bad_times n
      go full OfTimes.no_room w = cc

  -- then the second is not read
  stays : is_err first.ending ≡ true → read_feed room a b ≡ read_times room (lines (without_mark a))
  unfolding read_feed transfers_after ending_of
  stays h = go (read_times room (lines (without_mark a))).end refl
    where
      go : (z : End) → (read_times room (lines (without_mark a))).end ≡ z → read_feed room a b ≡ read_times room (lines (without_mark a))
      go done q = let n : false ≡ true = rw (first_ended, q) at h in cc
      go (bad_times k) q = rw q
      go (bad_transfers k) q = rw q
      go full q = rw q

  is_done : is_err first.ending ≡ false → (read_times room (lines (without_mark a))).end ≡ done
  unfolding ending_of
  is_done h = go (read_times room (lines (without_mark a))).end refl
    where
      go : (z : End) → (read_times room (lines (without_mark a))).end ≡ z → z ≡ done
      go done q = refl
      go (bad_times k) q = let n : true ≡ false = rw (first_ended, q) at h in cc
      go (bad_transfers k) q = let n : true ≡ false = rw (first_ended, q) at h in cc
      go full q = let n : true ≡ false = rw (first_ended, q) at h in cc

  -- what the first file tells
  pub first_says : is_err first.ending ≡ true → {r : Told} → r ≡ first_told first → r ≡ told_by (split_of room a) (read_feed room a b)
  unfolding told_by split_of times_told
  first_says h o =
      let n : length (read_times room (lines (without_mark a))).feed.transfers ≡ 0 = ap length (no_transfers room (lines (without_mark a))) in
      o ∙ rw (stays h, f, n, ends_first (read_times room (lines (without_mark a))).end (of_times room (lines (without_mark a))))

  module _ {x s t x' s' t' : List ℕ} (l : TimesLeft room a (read_times room (lines (without_mark a))) x s t x' s' t') where
    -- and leaves
    first_left : (y : List ℕ) → read_feed room a b ≡ read_times room (lines (without_mark a))
        → Left room a b (read_feed room a b) (lent_feed x y s t) (lent_feed x' y s' t')
    unfolding with_bytes stops_shelf trips_shelf split_of stops_left trips_left flat_transfers flat_by
    first_left y h =
        rw h
        (record {
          times_left = l.rows_left;
          transfers_left = rw (no_transfers room (lines (without_mark a))) refl;
          stops_left_lem = booked_turn b l.stops_left_lem;
          trips_left_lem = l.trips_left_lem;
        })

    pub first_leaves : (y : List ℕ) → is_err first.ending ≡ true
        → Left room a b (read_feed room a b) (lent_feed x y s t) (lent_feed x' y s' t')
    first_leaves y h = first_left y (stays h)

    -- ---- the second file
    counted : first.stops ≡ length (read_times room (lines (without_mark a))).feed.stops
    unfolding times_told
    counted = ap (λ (t : TimesTold). t.stops) f

    pub paths_lent : {y : List ℕ} → FilesLent room a b x y s t → PathsLent room first.stops a b y s'
    unfolding stops_left
    paths_lent h = rw counted (record { book = l.stops_left_lem.book; short = h.second_short; rows = h.paths })

    module _ (q : is_err first.ending ≡ false) {second : TransfersTold} (e : second ≡ transfers_told (transfers_read room first.stops a b s')) where
      both : read_feed room a b
          ≡ carried (read_times room (lines (without_mark a))).feed.trips (read_times room (lines (without_mark a))).feed.times
          (transfers_read room first.stops a b s')
      unfolding read_feed transfers_after stops_left
      both =
          rw (is_done q, counted)
          (transfers_carried room b (read_times room (lines (without_mark a))).feed l.stops_left_lem (no_transfers room (lines (without_mark a))))

      second_end : OfTransfers (transfers_read room first.stops a b s').end
      unfolding transfers_read
      second_end = of_transfers room (lines (without_mark b)) (stops_only (names_in a a (first_shelf room first.stops) s'))

      pub both_say : {r : Told} → r ≡ told_both first second → r ≡ told_by (split_of room a) (read_feed room a b)
      unfolding told_by split_of times_told transfers_told
      both_say o =
          let h = transfers_read room first.stops a b s' in
          o ∙ rw (both, e, ends_second h.end second_end, f)

      more : length (read_times room (lines (without_mark a))).feed.stops ≤ length (transfers_read room first.stops a b s').feed.stops
      unfolding transfers_read stops_left
      more =
          rw (counted, l.stops_left_lem.texts)
          (stops_stay room (lines (without_mark b)) (stops_only (read_times room (lines (without_mark a))).feed.stops))

      pub both_left : {y y' s'' : List ℕ} → TransfersLeft room first.stops a b (transfers_read room first.stops a b s') y s' y' s''
          → Left room a b (read_feed room a b) (lent_feed x y s t) (lent_feed x' y' s'' t')
      unfolding stops_shelf trips_shelf split_of stops_left trips_left paths_left
      both_left {y} {y'} {s''} k =
          let h = transfers_read room first.stops a b s' in
          let n = length (read_times room (lines (without_mark a))).feed.stops in
          let z : Booked a b (record { cap = room.stops; split = n; count = length h.feed.stops }) s' s'' h.feed.stops =
          subst (λ (m : ℕ). Booked a b (record { cap = room.stops; split = m; count = length h.feed.stops }) s' s'' h.feed.stops) counted k.stops_left_lem in
          rw both
          (record {
            times_left = l.rows_left;
            transfers_left = k.paths_left_lem;
            stops_left_lem = booked_on (booked_turn b l.stops_left_lem) z more;
            trips_left_lem = l.trips_left_lem;
          })
