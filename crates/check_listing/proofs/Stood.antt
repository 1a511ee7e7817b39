-- The row of a trip's standing: its test as facts.
use Prim.Native.Nat.{ℕ, ◌+◌, ◌<◌}
use mathlib.Core.Path.{◌≡◌}
use mathlib.Core.Bool.{true, ◌&&◌}
use mathlib.Core.List.{List}
use lib.Dec.{ltb, leb, eqb}
use borrow.Author.Tests.{ltb-true, lt-ltb, leb-true, le-leb, eqb-true, eq-eqb}
use Rattle.base.proofs.Choice.{and_left, and_right}
use Rattle.repository.specs.Sections.{sec, routes, ROUTE_TRIP_STARTS}
use Rattle.repository.specs.Sections.{route_trip_at, standing_route, standing_place}
use Rattle.repository.specs.Listed.{standing}
use Rattle.repository.specs.Accepted.{Under}

pub record Stood (w : List ℕ) (v : ℕ) : Type 0 where
  pub route : standing_route w v < routes w
  pub under : Under w ROUTE_TRIP_STARTS (standing_route w v) (standing_place w v)
  pub trip : route_trip_at w (standing_place w v) ≡ v

pub standing_shown : (w : List ℕ) (v : ℕ) → standing w v ≡ true → Stood w v
unfolding standing
standing_shown w v e =
    let r = standing_route w v in
    let j = standing_place w v in
    let a = ltb r (routes w) in
    let b = leb (sec w ROUTE_TRIP_STARTS r) j in
    let c = ltb j (sec w ROUTE_TRIP_STARTS (r + 1)) in
    let d = eqb (route_trip_at w j) v in
    let abc = and_left (a && b && c) d e in
    let ab = and_left (a && b) c abc in
    record {
      route = ltb-true _ _ (and_left a b ab);
      under = record { from = leb-true _ _ (and_right a b ab); to = ltb-true _ _ (and_right (a && b) c abc) };
      trip = eqb-true _ _ (and_right (a && b && c) d e);
    }

pub standing_so : (w : List ℕ) (v : ℕ) → Stood w v → standing w v ≡ true
unfolding standing
standing_so w v h =
    let r = standing_route w v in
    let j = standing_place w v in
    rw (
      lt-ltb r (routes w) h.route,
      le-leb (sec w ROUTE_TRIP_STARTS r) j h.under.from,
      lt-ltb j (sec w ROUTE_TRIP_STARTS (r + 1)) h.under.to,
      eq-eqb (route_trip_at w j) v h.trip,
    )
