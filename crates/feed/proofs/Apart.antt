-- Two stops, or two trips, that have different numbers stand for different ids: nothing is lost by keeping quotes doubled.
-- Assumes nothing.
use Prim.Native.Nat.{ℕ}
use mathlib.Core.Path.{◌≡◌}
use Rattle.std.specs.Prelude.{Some}
use mathlib.Core.List.{List, [], ◌∷◌, ◌++◌}
use native.Mathlib.Omega.{arith}
use lib.ListN.{get_or}
use Rattle.base.specs.Each.{Each, nil, cons}
use Rattle.base.proofs.Each.{each_append}
use Rattle.csv_text.specs.Fields.{fields}
use Rattle.feed.specs.declared.Room.{Room}
use Rattle.feed.specs.declared.TimesColumns.{TimesColumns}
use Rattle.feed.specs.declared.TransferColumns.{TransferColumns}
use Rattle.feed.specs.Feed.{Feed, named}
use Rattle.feed.specs.Times.{TimeLine, time_line, kept, take_time}
use Rattle.feed.specs.Transfers.{TransferLine, transfer_line, take_transfer}
use Rattle.feed.specs.Reading.{read_feed}
use Rattle.feed.specs.Held.{Once}
use Rattle.feed.specs.Undoubled.{Paired, StandApart}
use Rattle.feed.specs.Refused.{TimesTaken, no_times, times_more, TransfersTaken, no_transfers, transfers_more}
use Rattle.feed.proofs.Naming.{named_either}
use Rattle.feed.proofs.Valued.{time_fields, transfer_fields}
use Rattle.feed.proofs.Taking.{take_cases, entered_is, transfer_entered}
use Rattle.feed.proofs.Undoubling.{undoubled_same, fields_paired, paired_at}
use Rattle.feed.proofs.Reaching.{Stays, holds_of_read}
use Rattle.feed.proofs.Standing.{stops_once, trips_once}

record NamesPaired (f : Feed) : Type 0 where
  stops : Each Paired f.stops
  trips : Each Paired f.trips

named_paired : (names : List (List ℕ)) (t : List ℕ) → Each Paired names → Paired t → Each Paired (named names t)
named_paired names t f p = named_either names t (λ e. rw e f) (λ u e. rw e (each_append f (cons p nil)))

-- the text of a column
text_paired : (l : List ℕ) {ts : List (List ℕ)} {t : List ℕ} (i : ℕ) → fields l ≡ Some ts → get_or ts i [] ≡ t → Paired t
text_paired l i s e = rw (← e) (paired_at (fields_paired l s) i)

time_paired : (c : TimesColumns) (room : Room) (l : List ℕ) (x : TimeLine) (f g : Feed) (q : ℕ) → time_line c l ≡ Some x
    → take_time room x f q ≡ kept g → NamesPaired f → NamesPaired g
time_paired c room l x f g q e k p =
    let z = time_fields c l e in
    let t = text_paired l c.trip z.are z.trip in
    let s = named_paired f.stops x.stop p.stops (text_paired l c.stop z.are z.stop) in
    take_cases room x f q k
    (λ v w m. rw (← (entered_is room x f.trips f m).now_is) (record { stops = s; trips = p.trips }))
    (λ v w m. let y : ◌≡◌ {A = ℕ} 0 1 = cc in absurd (omega arith))
    (λ v w m.
    rw (← (entered_is room x (f.trips ++ (x.trip ∷ [])) f m).now_is) (record { stops = s; trips = each_append p.trips (cons t nil) }))
    (λ v w m. let y : ◌≡◌ {A = ℕ} 0 1 = cc in absurd (omega arith))

times_paired : {c : TimesColumns} {room : Room} {ls : List (List ℕ)} {f g : Feed} {q q' : ℕ} → TimesTaken c room ls f q g q' → NamesPaired f
    → NamesPaired g
times_paired no_times p = p
times_paired {c} {room} (times_more {l} {ls} {x} {f} {g} {f'} {q} e k t) p = times_paired t (time_paired c room l x f g q e k p)

transfer_paired : (c : TransferColumns) (room : Room) (l : List ℕ) (x : TransferLine) (f g : Feed) → transfer_line c l ≡ Some x
    → take_transfer room x f ≡ Some g → NamesPaired f → NamesPaired g
transfer_paired c room l x f g e k p =
    let z = transfer_fields c l e in
    let near = named_paired f.stops x.from p.stops (text_paired l c.from z.are z.from) in
    let s = named_paired (named f.stops x.from) x.to near (text_paired l c.to z.are z.to) in
    rw (← (transfer_entered room x f k).now_is) (record { stops = s; trips = p.trips })

transfers_paired : {c : TransferColumns} {room : Room} {ls : List (List ℕ)} {f g : Feed} → TransfersTaken c room ls f g → NamesPaired f
    → NamesPaired g
transfers_paired no_transfers p = p
transfers_paired {c} {room} (transfers_more {l} {ls} {x} {f} {g} {f'} e k t) p = transfers_paired t (transfer_paired c room l x f g e k p)

paired_stays : (room : Room) → Stays room NamesPaired NamesPaired
paired_stays room = record {
  empty = record { stops = nil; trips = nil };
  times = λ t p. times_paired t p;
  then = λ p. p;
  transfers = λ t p. transfers_paired t p;
}

once_apart : {names : List (List ℕ)} → Each Paired names → Once names → StandApart names
once_apart p o = record { apart = λ i j h k e. o.once i j h k (undoubled_same (paired_at p i) (paired_at p j) e) }

module _ (room : Room) (a b : List ℕ) where
  read_paired : NamesPaired (read_feed room a b).feed
  read_paired = holds_of_read room NamesPaired NamesPaired (paired_stays room) a b

  pub stops_apart : StandApart (read_feed room a b).feed.stops
  stops_apart = once_apart read_paired.stops (stops_once room a b)

  pub trips_apart : StandApart (read_feed room a b).feed.trips
  trips_apart = once_apart read_paired.trips (trips_once room a b)
