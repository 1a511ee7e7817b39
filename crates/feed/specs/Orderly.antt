-- Rows that read back as they are: what the reader makes and the writer takes. Each is tested with what stands before it, and the first at fault decides.
use Rattle.std.specs.Prelude.{ℕ, zero, suc, ◌≤◌, ◌≡◌, Bool, cond, ◌&&◌, ◌||◌, List, [], ◌∷◌, ltb, leb, eqb, length}
use Rattle.numbers.specs.Clock.{MIDNIGHT}
use Rattle.feed.specs.declared.Room.{Room}
use Rattle.feed.specs.Feed.{TimeRow, TransferRow}
use Rattle.feed.specs.Transfers.{UNSTATED}

-- so many stops and trips have appeared
pub record Seen : Type 0 where
  pub stops : ℕ
  pub trips : ℕ

abbrev pub none_seen : Seen
none_seen = record { stops = 0; trips = 0 }

-- a number appears for the first time only where it is the next
unfoldable pub seen_after : ℕ → ℕ → ℕ
seen_after seen s = cond (eqb s seen) (suc seen) seen

-- a stop that has appeared or is the next, while there is room
unfoldable pub stop_fits : Room → ℕ → ℕ → Bool
stop_fits room stops s = leb s stops && ltb s room.stops

-- the trip of the row before, or the next, while there is room
unfoldable pub trip_fits : Room → ℕ → ℕ → Bool
trip_fits room trips v = (eqb (suc v) trips || eqb v trips) && ltb v room.trips

-- 0:00:00 to 99:59:59
unfoldable pub is_moment : ℕ → Bool
is_moment m = leb MIDNIGHT m && leb m 446_399

-- 2 for a number that is out of order, 3 for a moment that no clock shows, else 0
unfoldable pub time_fault : Room → Seen → TimeRow → ℕ
time_fault room s r =
    cond (stop_fits room s.stops r.stop && trip_fits room s.trips r.trip)
    (cond (is_moment r.arrival && is_moment r.departure) 0 3) 2

unfoldable pub after_time : Seen → TimeRow → Seen
after_time s r = record { stops = seen_after s.stops r.stop; trips = seen_after s.trips r.trip }

unfoldable pub times_fault : Room → Seen → List TimeRow → ℕ
times_fault room s [] = 0
times_fault room s (r ∷ rs) = elim (time_fault room s r) [ zero ↦ times_fault room (after_time s r) rs | suc k ↦ suc k ]

unfoldable pub after_times : Seen → List TimeRow → Seen
after_times s [] = s
after_times s (r ∷ rs) = after_times (after_time s r) rs

-- "Only transfer_type 2 gives a stated span"
unfoldable pub fits_span : ℕ → ℕ → Bool
fits_span k x = cond (eqb k 2) (ltb x UNSTATED) (leb k 5 && eqb x UNSTATED)

-- 2 for a number that is out of order, 5 for a type or a span that is none, else 0
unfoldable pub transfer_fault : Room → ℕ → TransferRow → ℕ
transfer_fault room stops r =
    cond (stop_fits room stops r.from && stop_fits room (seen_after stops r.from) r.to)
    (cond (fits_span r.kind r.span) 0 5) 2

unfoldable pub after_transfer : ℕ → TransferRow → ℕ
after_transfer stops r = seen_after (seen_after stops r.from) r.to

unfoldable pub transfers_fault : Room → ℕ → List TransferRow → ℕ
transfers_fault room stops [] = 0
transfers_fault room stops (r ∷ rs) =
    elim (transfer_fault room stops r) [ zero ↦ transfers_fault room (after_transfer stops r) rs | suc k ↦ suc k ]

unfoldable pub after_transfers : ℕ → List TransferRow → ℕ
after_transfers stops [] = stops
after_transfers stops (r ∷ rs) = after_transfers (after_transfer stops r) rs

pub record Orderly (room : Room) (ts : List TimeRow) (xs : List TransferRow) : Type 0 where
  pub few_times : length ts ≤ room.times
  pub few_transfers : length xs ≤ room.transfers
  pub times_right : times_fault room none_seen ts ≡ 0
  pub transfers_right : transfers_fault room (after_times none_seen ts).stops xs ≡ 0
