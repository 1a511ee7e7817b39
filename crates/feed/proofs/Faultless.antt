-- What a row is that has no fault, and the rows behind it.
-- Assumes nothing.
use Prim.Native.Nat.{ℕ, zero, suc, ◌≤◌, ◌<◌}
use mathlib.Core.Path.{◌≡◌, refl}
use mathlib.Core.Bool.{Bool, true, false, cond, ◌&&◌, ◌||◌}
use mathlib.Core.List.{List, ◌∷◌}
use native.Mathlib.Omega.{arith}
use lib.Dec.{ltb, leb, eqb}
use borrow.Author.Tests.{ltb-true, leb-true, eqb-true}
use Rattle.base.proofs.Choice.{split, and_left, and_right}
use Rattle.numbers.specs.Clock.{MIDNIGHT}
use Rattle.feed.specs.declared.Room.{Room}
use Rattle.feed.specs.Feed.{TimeRow, TransferRow}
use Rattle.feed.specs.Orderly.{Seen, seen_after, stop_fits, trip_fits, is_moment, time_fault, after_time, times_fault, fits_span, transfer_fault, after_transfer, transfers_fault}

-- a test that a fault of 0 has passed, and what it leads to
passed : (a : Bool) (x y : ℕ) → 0 < y → cond a x y ≡ 0 → a ≡ true
passed true x y h e = refl
passed false x y h e = absurd (omega arith)

passed_on : (a : Bool) (x y : ℕ) → 0 < y → cond a x y ≡ 0 → x ≡ 0
passed_on true x y h e = e
passed_on false x y h e = absurd (omega arith)

-- a fault of 0 goes on to the next
first_none : (x k : ℕ) → ◌≡◌ {A = ℕ} (elim k [ zero ↦ x | suc j ↦ suc j ]) 0 → k ≡ 0
first_none x zero e = refl
first_none x (suc k) e = e

then_none : (x k : ℕ) → ◌≡◌ {A = ℕ} (elim k [ zero ↦ x | suc j ↦ suc j ]) 0 → x ≡ 0
then_none x zero e = e
then_none x (suc k) e = absurd (omega arith)

either : {C : Type 0} (a b : Bool) → a || b ≡ true → (a ≡ true → C) → (a ≡ false → b ≡ true → C) → C
either true b e f g = f refl
either false b e f g = g refl e

-- ---- a stop
pub stop_known : (room : Room) (n s : ℕ) → stop_fits room n s ≡ true → s ≤ n
unfolding stop_fits
stop_known room n s e = leb-true s n (and_left (leb s n) (ltb s room.stops) e)

pub stop_inside : (room : Room) (n s : ℕ) → stop_fits room n s ≡ true → s < room.stops
unfolding stop_fits
stop_inside room n s e = ltb-true s room.stops (and_right (leb s n) (ltb s room.stops) e)

pub seen_inside : (room : Room) (n s : ℕ) → stop_fits room n s ≡ true → n ≤ room.stops → seen_after n s ≤ room.stops
unfolding seen_after
seen_inside room n s e h =
    let l = stop_inside room n s e in
    split (eqb s n) (λ w. let q = eqb-true s n w in rw w (omega arith)) (λ w. rw w h)

-- ---- a stop time
pub record TimeRight (room : Room) (s : Seen) (r : TimeRow) : Type 0 where
  pub stop_fits_lem : stop_fits room s.stops r.stop ≡ true
  pub trip_fits_lem : trip_fits room s.trips r.trip ≡ true
  pub arrival : is_moment r.arrival ≡ true
  pub departure : is_moment r.departure ≡ true

pub time_right : (room : Room) (s : Seen) (r : TimeRow) → time_fault room s r ≡ 0 → TimeRight room s r
unfolding time_fault
time_right room s r e =
    let a = stop_fits room s.stops r.stop in
    let b = trip_fits room s.trips r.trip in
    let c = is_moment r.arrival in
    let d = is_moment r.departure in
    let x : a && b ≡ true = passed (a && b) (cond (c && d) 0 3) 2 (omega arith) e in
    let y : c && d ≡ true = passed (c && d) 0 3 (omega arith) (passed_on (a && b) (cond (c && d) 0 3) 2 (omega arith) e) in
    record { stop_fits_lem = and_left a b x; trip_fits_lem = and_right a b x; arrival = and_left c d y; departure = and_right c d y }

pub moment_low : (m : ℕ) → is_moment m ≡ true → MIDNIGHT ≤ m
unfolding is_moment
moment_low m e = leb-true MIDNIGHT m (and_left (leb MIDNIGHT m) (leb m 446_399) e)

pub moment_high : (m : ℕ) → is_moment m ≡ true → m ≤ 446_399
unfolding is_moment
moment_high m e = leb-true m 446_399 (and_right (leb MIDNIGHT m) (leb m 446_399) e)

pub trip_inside : (room : Room) (n v : ℕ) → trip_fits room n v ≡ true → v < room.trips
unfolding trip_fits
trip_inside room n v e = ltb-true v room.trips (and_right (eqb (suc v) n || eqb v n) (ltb v room.trips) e)

-- the trip of the row before, or the next
pub trip_either : {C : Type 0} (room : Room) (n v : ℕ) → trip_fits room n v ≡ true → (suc v ≡ n → C) → (v ≡ n → C) → C
unfolding trip_fits
trip_either room n v e f g =
    either (eqb (suc v) n) (eqb v n) (and_left (eqb (suc v) n || eqb v n) (ltb v room.trips) e)
    (λ w. f (eqb-true (suc v) n w))
    (λ u w. g (eqb-true v n w))

module _ (room : Room) (s : Seen) (r : TimeRow) (rs : List TimeRow) (e : times_fault room s (r ∷ rs) ≡ 0) where
  pub times_first : time_fault room s r ≡ 0
  unfolding times_fault
  times_first = first_none (times_fault room (after_time s r) rs) (time_fault room s r) e

  pub times_rest : times_fault room (after_time s r) rs ≡ 0
  unfolding times_fault
  times_rest = then_none (times_fault room (after_time s r) rs) (time_fault room s r) e

-- ---- a transfer
pub record TransferRight (room : Room) (stops : ℕ) (r : TransferRow) : Type 0 where
  pub from_fits : stop_fits room stops r.from ≡ true
  pub to_fits : stop_fits room (seen_after stops r.from) r.to ≡ true
  pub span_fits : fits_span r.kind r.span ≡ true

pub transfer_right : (room : Room) (stops : ℕ) (r : TransferRow) → transfer_fault room stops r ≡ 0 → TransferRight room stops r
unfolding transfer_fault
transfer_right room stops r e =
    let a = stop_fits room stops r.from in
    let b = stop_fits room (seen_after stops r.from) r.to in
    let c = fits_span r.kind r.span in
    let x : a && b ≡ true = passed (a && b) (cond c 0 5) 2 (omega arith) e in
    record {
      from_fits = and_left a b x;
      to_fits = and_right a b x;
      span_fits = passed c 0 5 (omega arith) (passed_on (a && b) (cond c 0 5) 2 (omega arith) e);
    }

module _ (room : Room) (stops : ℕ) (r : TransferRow) (rs : List TransferRow) (e : transfers_fault room stops (r ∷ rs) ≡ 0) where
  pub transfers_first : transfer_fault room stops r ≡ 0
  unfolding transfers_fault
  transfers_first = first_none (transfers_fault room (after_transfer stops r) rs) (transfer_fault room stops r) e

  pub transfers_rest : transfers_fault room (after_transfer stops r) rs ≡ 0
  unfolding transfers_fault
  transfers_rest = then_none (transfers_fault room (after_transfer stops r) rs) (transfer_fault room stops r) e
