-- A line that is taken leaves the feed orderly, its names once and its tables within their room.
-- Assumes nothing.
use Prim.Native.Nat.{ℕ, zero, suc, ◌-◌, ◌≤◌, ◌<◌}
use mathlib.Core.Path.{◌≡◌, refl, sym, ap, ◌∙◌}
use mathlib.Core.Bool.{true, ◌||◌}
use Rattle.std.specs.Prelude.{Some}
use mathlib.Core.List.{List, [], ◌∷◌, ◌++◌}
use native.Mathlib.Omega.{arith}
use lib.Dec.{ltb, eqb}
use lib.ListN.{length, get_or, length-append}
use borrow.Author.Tests.{ltb-true, lt-ltb, le-leb, eq-eqb, ne_eqb}
use Rattle.base.proofs.Choice.{and_left}
use Rattle.csv_text.specs.Texts.{same_text}
use Rattle.feed.specs.declared.Room.{Room}
use Rattle.feed.specs.declared.TimesColumns.{TimesColumns}
use Rattle.feed.specs.declared.TransferColumns.{TransferColumns}
use Rattle.feed.specs.Feed.{TimeRow, TransferRow, Feed, empty_feed, named, number_of}
use Rattle.feed.specs.Times.{TimeLine, time_line, kept, is_last, take_time}
use Rattle.feed.specs.Transfers.{TransferLine, transfer_line, take_transfer}
use Rattle.feed.specs.Orderly.{Seen, none_seen, seen_after, stop_fits, trip_fits, is_moment, time_fault, after_time, times_fault, after_times}
use Rattle.feed.specs.Orderly.{transfer_fault, after_transfer, transfers_fault, after_transfers}
use Rattle.feed.specs.Held.{Once, Tallies, InRoom}
use Rattle.feed.specs.Refused.{TimesTaken, no_times, times_more, TransfersTaken, no_transfers, transfers_more}
use Rattle.feed.proofs.Naming.{number_least, number_below, named_length, named_longer, named_once, once_more, is_named_new}
use Rattle.feed.proofs.Taking.{take_cases, time_row, Entered, entered_is}
use Rattle.feed.proofs.Taking.{transfer_row, TransferEntered, transfer_entered}
use Rattle.feed.proofs.Valued.{time_fields, transfer_fields}
use Rattle.feed.proofs.Moments.{clock_moment, span_right}

-- ---- one more row
still_none : (k x y : ℕ) → ◌≡◌ {A = ℕ} (elim k [ zero ↦ x | suc j ↦ suc j ]) 0 → (x ≡ 0 → y ≡ 0) → ◌≡◌ {A = ℕ} (elim k [ zero ↦ y | suc j ↦ suc j ]) 0
still_none zero x y e f = f e
still_none (suc k) x y e f = e

faults_more : (room : Room) (s : Seen) (ts : List TimeRow) (r : TimeRow) → times_fault room s ts ≡ 0 → time_fault room (after_times s ts) r ≡ 0
    → times_fault room s (ts ++ (r ∷ [])) ≡ 0
unfolding times_fault after_times
faults_more room s [] r e h = rw (h, times_fault)
faults_more room s (t ∷ ts) r e h =
    still_none (time_fault room s t) (times_fault room (after_time s t) ts) (times_fault room (after_time s t) (ts ++ (r ∷ []))) e
    (λ z. faults_more room (after_time s t) ts r z h)

seen_more : (s : Seen) (ts : List TimeRow) (r : TimeRow) → after_times s (ts ++ (r ∷ [])) ≡ after_time (after_times s ts) r
unfolding after_times
seen_more s [] r = refl
seen_more s (t ∷ ts) r = seen_more (after_time s t) ts r

transfer_faults_more : (room : Room) (n : ℕ) (ts : List TransferRow) (r : TransferRow) → transfers_fault room n ts ≡ 0
    → transfer_fault room (after_transfers n ts) r ≡ 0 → transfers_fault room n (ts ++ (r ∷ [])) ≡ 0
unfolding transfers_fault after_transfers
transfer_faults_more room n [] r e h = rw (h, transfers_fault)
transfer_faults_more room n (t ∷ ts) r e h =
    still_none (transfer_fault room n t) (transfers_fault room (after_transfer n t) ts) (transfers_fault room (after_transfer n t) (ts ++ (r ∷ []))) e
    (λ z. transfer_faults_more room (after_transfer n t) ts r z h)

transfers_seen_more : (n : ℕ) (ts : List TransferRow) (r : TransferRow) → after_transfers n (ts ++ (r ∷ [])) ≡ after_transfer (after_transfers n ts) r
unfolding after_transfers
transfers_seen_more n [] r = refl
transfers_seen_more n (t ∷ ts) r = transfers_seen_more (after_transfer n t) ts r

-- ---- what a feed is that was read
pub record Right (room : Room) (f : Feed) : Type 0 where
  pub within : InRoom room f
  pub tallies : Tallies f
  pub times_right : times_fault room none_seen f.times ≡ 0
  pub transfers_right : transfers_fault room (after_times none_seen f.times).stops f.transfers ≡ 0
  pub stops_once : Once f.stops
  pub trips_once : Once f.trips

pub empty_right : (room : Room) → Right room empty_feed
unfolding times_fault after_times transfers_fault after_transfers
empty_right room = record {
  within = record { stops = omega arith; trips = omega arith; times = omega arith; transfers = omega arith };
  tallies = record { stops = refl; trips = refl };
  times_right = refl;
  transfers_right = refl;
  stops_once = record { once = λ i j h k e. absurd (omega arith) };
  trips_once = record { once = λ i j h k e. absurd (omega arith) };
}

-- a number that a name has fits
stop_fits_lem : (room : Room) (names : List (List ℕ)) (t : List ℕ) {n : ℕ} → n ≡ length names → length (named names t) ≤ room.stops
    → stop_fits room n (number_of names t) ≡ true
unfolding stop_fits
stop_fits_lem room names t e h =
    let a = number_least names t in
    let b = number_below names t in
    rw (e, le-leb (number_of names t) (length names) a, lt-ltb (number_of names t) room.stops (omega arith))

-- ---- stop_times.txt, while there is no transfer
module _ (room : Room) (x : TimeLine) (f : Feed) (trips : List (List ℕ)) (r : Right room f) (none : f.transfers ≡ [])
    (am : is_moment x.arrival ≡ true) (dm : is_moment x.departure ≡ true) where
  seen : Seen
  seen = after_times none_seen f.times

  stops_seen : seen.stops ≡ length f.stops
  unfolding seen after_transfers
  stops_seen =
      let z : length f.stops ≡ after_transfers (after_times none_seen f.times).stops [] = rw none at r.tallies.stops in
      sym z

  trips_seen : seen.trips ≡ length f.trips
  unfolding seen
  trips_seen = sym r.tallies.trips

  module _ {g : Feed} (w : Entered room x trips f g) (once : Once trips)
      (next : (eqb (suc (length trips - 1)) (length f.trips) || eqb (length trips - 1) (length f.trips)) ≡ true)
      (count : seen_after (length f.trips) (length trips - 1) ≡ length trips) (some : 0 < length trips) where
    row : TimeRow
    row = time_row room x trips f

    row_right : time_fault room seen row ≡ 0
    unfolding time_fault trip_fits row
    row_right =
        let a : stop_fits room seen.stops (number_of f.stops x.stop) ≡ true =
        stop_fits_lem room f.stops x.stop stops_seen w.stops_fit in
        rw (a, trips_seen, next, lt-ltb (length trips - 1) room.trips (omega (arith, w.trips_fit)), am, dm)

    seen_now : after_times none_seen (f.times ++ (row ∷ [])) ≡ record { stops = length (named f.stops x.stop); trips = length trips }
    unfolding after_time seen row
    seen_now =
        seen_more none_seen f.times row
        ∙ rw (stops_seen, trips_seen, named_length f.stops x.stop, count)

    entered_right : Right room g
    unfolding row transfers_fault after_transfers seen
    entered_right =
        rw (← w.now_is)
        (record {
          within = record {
            stops = w.stops_fit;
            trips = w.trips_fit;
            times = omega (arith, length-append f.times (row ∷ []), w.times_fit);
            transfers = r.within.transfers;
          };
          tallies = record { stops = rw (none, seen_now); trips = rw seen_now };
          times_right = faults_more room none_seen f.times row r.times_right row_right;
          transfers_right = rw none;
          stops_once = named_once f.stops x.stop r.stops_once;
          trips_once = once;
        })

    entered_none : g.transfers ≡ []
    entered_none = rw (← w.now_is) none

-- the two ways of a line: another row of the last trip, or the first of a new one
module _ (c : TimesColumns) (room : Room) (l : List ℕ) (x : TimeLine) (f g : Feed) (q : ℕ) (r : Right room f) (none : f.transfers ≡ [])
    (e : time_line c l ≡ Some x) where
  am : is_moment x.arrival ≡ true
  am = let z = time_fields c l e in clock_moment (get_or z.texts c.arrival []) z.arrival

  dm : is_moment x.departure ≡ true
  dm = let z = time_fields c l e in clock_moment (get_or z.texts c.departure []) z.departure

  module _ (v : is_last f.trips x.trip ≡ true) where
    some_trip : 0 < length f.trips
    unfolding is_last
    some_trip =
        ltb-true 0 (length f.trips) (and_left (ltb 0 (length f.trips)) (same_text x.trip (get_or f.trips (length f.trips - 1) [])) v)

    on_next : (eqb (suc (length f.trips - 1)) (length f.trips) || eqb (length f.trips - 1) (length f.trips)) ≡ true
    on_next = let h = some_trip in rw (eq-eqb (suc (length f.trips - 1)) (length f.trips) (omega arith))

    on_count : seen_after (length f.trips) (length f.trips - 1) ≡ length f.trips
    unfolding seen_after
    on_count = let h = some_trip in rw (ne_eqb (length f.trips - 1) (length f.trips) (λ z. omega arith))

  more : List (List ℕ)
  more = f.trips ++ (x.trip ∷ [])

  more_length : length more ≡ suc (length f.trips)
  unfolding more
  more_length = omega (arith, length-append f.trips (x.trip ∷ []))

  new_next : (eqb (suc (length more - 1)) (length f.trips) || eqb (length more - 1) (length f.trips)) ≡ true
  new_next =
      let h = more_length in
      rw (ne_eqb (suc (length more - 1)) (length f.trips) (λ z. omega arith), eq-eqb (length more - 1) (length f.trips) (omega arith))

  new_count : seen_after (length f.trips) (length more - 1) ≡ length more
  unfolding seen_after
  new_count = let h = more_length in rw (eq-eqb (length more - 1) (length f.trips) (omega arith)) (omega arith)

  some_more : 0 < length more
  some_more = let h = more_length in omega arith

  pub time_kept : take_time room x f q ≡ kept g → Right room g × (g.transfers ≡ [])
  unfolding more
  time_kept k =
      take_cases room x f q k
      (λ v w m.
      let z = entered_is room x f.trips f m in (
        entered_right room x f f.trips r none am dm z r.trips_once (on_next v) (on_count v) (some_trip v),
        entered_none room x f f.trips r none am dm z r.trips_once (on_next v) (on_count v) (some_trip v),
      ))
      (λ v w m. let z : ◌≡◌ {A = ℕ} 0 1 = cc in absurd (omega arith))
      (λ v w m.
      let z = entered_is room x (f.trips ++ (x.trip ∷ [])) f m in
      let o = once_more f.trips x.trip r.trips_once (is_named_new f.trips x.trip w) in (
        entered_right room x f (f.trips ++ (x.trip ∷ [])) r none am dm z o new_next new_count some_more,
        entered_none room x f (f.trips ++ (x.trip ∷ [])) r none am dm z o new_next new_count some_more,
      ))
      (λ v w m. let z : ◌≡◌ {A = ℕ} 0 1 = cc in absurd (omega arith))

pub times_kept : {c : TimesColumns} {room : Room} {ls : List (List ℕ)} {f g : Feed} {q q' : ℕ} → TimesTaken c room ls f q g q' → Right room f
    → f.transfers ≡ [] → Right room g × (g.transfers ≡ [])
times_kept no_times r none = (r, none)
times_kept {c} {room} (times_more {l} {ls} {x} {f} {g} {f'} {q} e k t) r none =
    let z = time_kept c room l x f g q r none e k in
    times_kept t z.0 z.1

-- ---- transfers.txt
module _ (c : TransferColumns) (room : Room) (l : List ℕ) (x : TransferLine) (f g : Feed) (r : Right room f) (e : transfer_line c l ≡ Some x)
    (k : take_transfer room x f ≡ Some g) where
  at : ℕ
  at = after_transfers (after_times none_seen f.times).stops f.transfers

  at_is : at ≡ length f.stops
  unfolding at
  at_is = sym r.tallies.stops

  walk : TransferRow
  walk = transfer_row room x f

  near : List (List ℕ)
  near = named f.stops x.from

  w : TransferEntered room x f g
  w = transfer_entered room x f k

  near_fits : length near ≤ room.stops
  unfolding near
  near_fits = omega (arith, w.stops_fit, named_longer (named f.stops x.from) x.to)

  walk_right : transfer_fault room at walk ≡ 0
  unfolding transfer_fault walk near
  walk_right =
      let a : stop_fits room at (number_of f.stops x.from) ≡ true = stop_fits_lem room f.stops x.from at_is near_fits in
      let n : seen_after at (number_of f.stops x.from) ≡ length (named f.stops x.from) =
      ap (λ (m : ℕ). seen_after m (number_of f.stops x.from)) at_is ∙ named_length f.stops x.from in
      let b : stop_fits room (seen_after at (number_of f.stops x.from)) (number_of (named f.stops x.from) x.to) ≡ true =
      stop_fits_lem room (named f.stops x.from) x.to n w.stops_fit in
      let z = transfer_fields c l e in
      rw (a, b, span_right (get_or z.texts c.kind []) (get_or z.texts c.span []) x.kind x.span z.kind z.span)

  at_now : after_transfers (after_times none_seen f.times).stops (f.transfers ++ (walk ∷ []))
      ≡ length (named (named f.stops x.from) x.to)
  unfolding after_transfer at walk
  at_now =
      transfers_seen_more (after_times none_seen f.times).stops f.transfers walk
      ∙ rw (at_is, named_length f.stops x.from, named_length (named f.stops x.from) x.to)

  pub transfer_kept : Right room g
  unfolding walk at
  transfer_kept =
      rw (← w.now_is)
      (record {
        within = record {
          stops = w.stops_fit;
          trips = r.within.trips;
          times = r.within.times;
          transfers = omega (arith, length-append f.transfers (walk ∷ []), w.transfers_fit);
        };
        tallies = record { stops = sym at_now; trips = r.tallies.trips };
        times_right = r.times_right;
        transfers_right =
            transfer_faults_more room (after_times none_seen f.times).stops f.transfers walk r.transfers_right walk_right;
        stops_once = named_once (named f.stops x.from) x.to (named_once f.stops x.from r.stops_once);
        trips_once = r.trips_once;
      })

pub transfers_kept : {c : TransferColumns} {room : Room} {ls : List (List ℕ)} {f g : Feed} → TransfersTaken c room ls f g → Right room f
    → Right room g
transfers_kept no_transfers r = r
transfers_kept {c} {room} (transfers_more {l} {ls} {x} {f} {g} {f'} e k t) r = transfers_kept t (transfer_kept c room l x f g r e k)
