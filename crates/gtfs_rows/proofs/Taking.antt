-- The plan of a row is what request 1 does with its line.
-- Assumes nothing.
use Prim.Native.Nat.{ℕ, zero, suc, ◌-◌, ◌≤◌, ◌<◌}
use mathlib.Core.Path.{◌≡◌, refl, sym, ap, ◌∙◌}
use mathlib.Core.Bool.{true}
use mathlib.Core.List.{List, [], ◌∷◌, ◌++◌}
use native.Mathlib.Omega.{arith}
use lib.Dec.{ltb, leb}
use lib.ListN.{length, get_or, length-append}
use borrow.Author.Tests.{ltb-true, ltb-false, lt-ltb, le-ltb, le-leb, lt-leb}
use Rattle.base.proofs.Choice.{split, and_left}
use Rattle.csv_text.specs.Texts.{same_text}
use Rattle.columns.specs.Picks.{is_named, text_at}
use Rattle.feed.specs.declared.Room.{Room}
use Rattle.feed.specs.declared.TimeSpans.{TimeSpans}
use Rattle.feed.specs.Feed.{Feed, known_as, named_by, named, number_by, number_of}
use Rattle.feed.specs.Times.{TimeLine, Took as TookLine, kept, bad, out_of_room, entered, is_last, take_time}
use Rattle.feed.specs.Spans.{time_at}
use Rattle.gtfs_rows.specs.declared.times.Trip.{Trip}
use Rattle.gtfs_rows.specs.declared.times.Trip.TheVariants.{Last, New, Gone}
use Rattle.std.specs.Prelude.{Result, Ok, Err}
use Rattle.gtfs_rows.specs.declared.times.Numbers.{Numbers}
use Rattle.gtfs_rows.specs.declared.times.Fault.{Fault}
use Rattle.gtfs_rows.specs.declared.times.Fault.TheVariants.{Bad, Full}
use Rattle.gtfs_rows.specs.declared.times.Reached.{Reached}
use Rattle.gtfs_rows.specs.Named.{names_with}
use Rattle.gtfs_rows.specs.Taking.{trip_is, with_time, plan_by, plan_under, plan_of}
use Rattle.feed.proofs.Naming.{known_most, number_least}
use Rattle.gtfs_rows.proofs.Named.{with_named, with_old, with_next}

-- what a plan says of a feed that takes a line or refuses it
abbrev pub Plans : Room → TimeLine → Feed → TookLine → Result Numbers Fault → Type 0
Plans room l f k (Ok n) =
    (k ≡ kept (with_time f l n.trip n.stop)) × (n.trip ≤ length f.trips) × (n.stop ≤ length f.stops) × (n.trip < room.trips) × (n.stop < room.stops)
    × (length f.times < room.times)
Plans room l f k (Err Bad) = k ≡ bad
Plans room l f k (Err Full) = k ≡ out_of_room

-- ---- the names after it fit where its number does
named_fits : (names : List (List ℕ)) (t : List ℕ) (cap : ℕ) → length names ≤ cap
    → leb (length (named names t)) cap ≡ ltb (number_of names t) cap
unfolding named number_of named_by number_by
named_fits names t cap h = go (known_as names t) (known_most names t)
  where
    go : (k : ℕ) → k ≤ length names → leb (length (named_by names t k)) cap ≡ ltb (number_by names k) cap
    go zero m =
        split (ltb (length names) cap)
        (λ e. le-leb (length (names ++ (t ∷ []))) cap (omega (arith, length-append names (t ∷ []), ltb-true (length names) cap e)) ∙ sym e)
        (λ e. lt-leb (length (names ++ (t ∷ []))) cap (omega (arith, length-append names (t ∷ []), ltb-false (length names) cap e)) ∙ sym e)
    go (suc j) m = le-leb (length names) cap h ∙ sym (lt-ltb j cap (omega arith))

-- ---- a row that is entered
module _ (room : Room) (l : TimeLine) (f : Feed) (few : length f.stops ≤ room.stops) (trips : List (List ℕ)) (trip : ℕ)
    (long : length trips ≡ suc trip) (same : trips ≡ names_with f.trips trip l.trip) (below : trip ≤ length f.trips) where
  entered_right : Plans room l f (entered room l trips f) (plan_by room (length f.times) trip (number_of f.stops l.stop))
  unfolding entered plan_by with_time
  entered_right =
      let s = number_of f.stops l.stop in
      let a : leb (length trips) room.trips ≡ ltb trip room.trips = ap (λ (n : ℕ). leb n room.trips) long in
      let b : leb (length (named f.stops l.stop)) room.stops ≡ ltb s room.stops = named_fits f.stops l.stop room.stops few in
      let e : length trips - 1 ≡ trip = omega (arith, long) in
      let row : kept (record {
        stops = named f.stops l.stop;
        trips = trips;
        times = f.times ++ (record { trip = length trips - 1; stop = s; arrival = l.arrival; departure = l.departure } ∷ []);
        transfers = f.transfers;
      }) ≡ kept (with_time f l trip s) = rw (← same, with_named f.stops l.stop s refl, e) in
      rw (a, b)
      (split (ltb trip room.trips)
      (λ p. split (ltb s room.stops)
      (λ q. split (ltb (length f.times) room.times)
      (λ r. rw (p, q, r) (row, below, number_least f.stops l.stop, ltb-true trip room.trips p, ltb-true s room.stops q, ltb-true (length f.times) room.times r))
      (λ r. rw (p, q, r) refl))
      (λ q. rw (p, q) refl))
      (λ p. rw p refl))

pub last_some : (trips : List (List ℕ)) (t : List ℕ) → is_last trips t ≡ true → 0 < length trips
unfolding is_last
last_some trips t e =
    ltb-true 0 (length trips) (and_left (ltb 0 (length trips)) (same_text t (get_or trips (length trips - 1) [])) e)

-- ---- the plan
pub plan_right : (room : Room) (l : TimeLine) (f : Feed) (at : Reached) → length f.stops ≤ room.stops → length f.trips ≡ at.trips
    → length f.times ≡ at.times → Plans room l f (take_time room l f at.last) (plan_of room l f.stops f.trips at)
unfolding take_time plan_of plan_under trip_is
plan_right room l f at few trips times =
    let t = l.trip in
    let n = length f.trips in
    let more : length (f.trips ++ (t ∷ [])) ≡ suc at.trips = omega (arith, length-append f.trips (t ∷ []), trips) in
    split (is_last f.trips t)
    (λ e. rw e (split (ltb at.last l.sequence)
    (λ q. let some : 0 < length f.trips = last_some f.trips t e in
    rw (q, ← times)
    (entered_right room l f few f.trips (at.trips - 1) (omega arith) (sym (with_old f.trips t (at.trips - 1) (omega arith))) (omega arith)))
    (λ q. rw q refl)))
    (λ e. rw e (split (is_named t f.trips)
    (λ q. rw q refl)
    (λ q. rw (q, ← times)
    (entered_right room l f few (f.trips ++ (t ∷ [])) at.trips more (sym (with_next f.trips t at.trips (sym trips))) (omega arith)))))

-- ---- as the code goes
module _ (room : Room) (b : List ℕ) (v : TimeSpans) (stops trips : List (List ℕ)) (at : Reached) {is : Trip} {number : ℕ}
    (p : is ≡ trip_is trips (text_at b v.trip)) (q : number ≡ number_of stops (text_at b v.stop)) where
  pub plan_gone : is ≡ Gone → Err Bad ≡ plan_of room (time_at b v) stops trips at
  unfolding plan_of plan_under time_at
  plan_gone e = rw (← p, e)

  pub plan_fallen : is ≡ Last → v.sequence ≤ at.last → Err Bad ≡ plan_of room (time_at b v) stops trips at
  unfolding plan_of plan_under time_at
  plan_fallen e h = rw (← p, e, le-ltb at.last v.sequence h)

  pub plan_last : is ≡ Last → at.last < v.sequence → {r : Result Numbers Fault} → r ≡ plan_by room at.times (at.trips - 1) number
      → r ≡ plan_of room (time_at b v) stops trips at
  unfolding plan_of plan_under time_at
  plan_last e h k = k ∙ rw (← p, e, lt-ltb at.last v.sequence h, ← q)

  pub plan_new : is ≡ New → {r : Result Numbers Fault} → r ≡ plan_by room at.times at.trips number → r ≡ plan_of room (time_at b v) stops trips at
  unfolding plan_of plan_under time_at
  plan_new e k = k ∙ rw (← p, e, ← q)
