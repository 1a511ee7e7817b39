-- "Each trip stands in exactly one route": the route that its row names is there, has the trip, and is the only one that has it.
use Prim.Native.Nat.{ℕ, suc, ◌+◌, ◌-◌, ◌≤◌, ◌<◌}
use mathlib.Core.Path.{◌≡◌, sym, ap, ◌∙◌}
use mathlib.Core.List.{List}
use native.Mathlib.Omega.{arith}
use native.Mathlib.Numerals.{add-one}
use native.Mathlib.Decide.{dec_lt}
use Rattle.repository.specs.Sections.{size, sec, routes, ROUTE_TRIP_STARTS, ROUTE_TRIPS, route_trip_at, standing_route, standing_place}
use Rattle.repository.specs.NetOf.{count, net_of}
use Rattle.repository.specs.Laid.{Laid}
use Rattle.repository.specs.Accepted.{Under, Accepted}
use Rattle.repository.specs.Rows.{TripOf, trip_count, route_of_trip}
use Rattle.repository.proofs.Rooms.{trip_of_route}
use Rattle.repository.proofs.Sorted.{never_falls}
use Rattle.repository.proofs.Trips.{trip_counted}
use Rattle.repository.proofs.Asked.{accepted_searchable}

-- ---- a row of the trips stands under one route only, since starts never fall

module _ {w : List ℕ} (h : Laid w) where
  later_starts : {r s : ℕ} → r ≤ s → s ≤ routes w → sec w ROUTE_TRIP_STARTS r ≤ sec w ROUTE_TRIP_STARTS s
  later_starts {r} {s} l g =
      never_falls (sec w ROUTE_TRIP_STARTS) r s (suc (routes w)) (λ k m. rw add-one at (h.route_trip_starts.rise k (omega arith))) l
      (omega arith)

  not_before : {r s j : ℕ} → s < routes w → Under w ROUTE_TRIP_STARTS r j → Under w ROUTE_TRIP_STARTS s j → r < s → ⊥
  not_before {r} {s} i u v l = omega (arith, u.to, v.from, later_starts {r = r + 1} {s = s} (omega arith) (omega arith))

  one_route : {r s j : ℕ} → r < routes w → s < routes w → Under w ROUTE_TRIP_STARTS r j → Under w ROUTE_TRIP_STARTS s j → r ≡ s
  one_route {r} {s} i k u v =
      elim (dec_lt r s) [
        | yes l ↦ absurd (not_before k u v l)
        | no l ↦ elim (dec_lt s r) [ yes g ↦ absurd (not_before i v u g) | no g ↦ omega arith ]
      ]

  under_in : {r j : ℕ} → r < (net_of w).routes → Under w ROUTE_TRIP_STARTS r j → j < size w ROUTE_TRIPS
  under_in i u = omega (arith, u.to, (trip_of_route h i).within)

-- ---- and a trip is one row only

module _ {w : List ℕ} (h : Accepted w) where
  one_row : {i j : ℕ} → i < size w ROUTE_TRIPS → j < size w ROUTE_TRIPS → route_trip_at w i ≡ route_trip_at w j → i ≡ j
  one_row {i} {j} a b e =
      elim (dec_lt i j) [
        | yes l ↦ absurd (h.listed.trip_once i j l b e)
        | no l ↦ elim (dec_lt j i) [ yes g ↦ absurd (h.listed.trip_once j i g a (sym e)) | no g ↦ omega arith ]
      ]

  module _ {v : ℕ} (i : v < trip_count w) where
    pub standing_in : route_of_trip w v < (net_of w).routes
    unfolding route_of_trip net_of trip_count
    standing_in = h.listed.standing_route_lem v i

    pub standing_trip_of : TripOf (net_of w) (route_of_trip w v) v
    unfolding route_of_trip net_of trip_count count
    standing_trip_of =
        let u = h.listed.standing_under v i in
        let a = sec w ROUTE_TRIP_STARTS (standing_route w v) in
        let row : a + (standing_place w v - a) ≡ standing_place w v = omega (arith, u.from) in
        record {
          place = standing_place w v - a;
          within = omega (arith, u.from, u.to);
          trip = sym (ap (λ (j : ℕ). route_trip_at w j) row ∙ h.listed.standing_trip v i);
        }

  pub standing_only : (r i : ℕ) {v : ℕ} → r < (net_of w).routes → i < (net_of w).trips r → (net_of w).trip_at r i ≡ v → r ≡ route_of_trip w v
  unfolding route_of_trip net_of trip_count count
  standing_only r i {v} l k e =
      let j = sec w ROUTE_TRIP_STARTS r + i in
      let g : v < trip_count w = rw e at (trip_counted {r = r} {i = i} (accepted_searchable h) l k) in
      let t = h.listed.standing_route_lem v g in
      let u : Under w ROUTE_TRIP_STARTS r j = record { from = omega arith; to = omega arith } in
      let s = h.listed.standing_under v g in
      let same : j ≡ standing_place w v =
      one_row (under_in h.laid l u) (under_in h.laid t s) (e ∙ sym (h.listed.standing_trip v g)) in
      one_route h.laid l t u (rw (← same) at s)
