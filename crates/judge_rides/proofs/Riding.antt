-- A trip and its positions: what a ride's code asks, and how its two loops go.
use Prim.Native.Nat.{ℕ, suc, ◌+◌, ◌-◌, ◌≤◌, ◌<◌}
use mathlib.Core.Path.{◌≡◌, sym, ap, ◌∙◌, subst}
use mathlib.Core.Bool.{Bool, true, false}
use mathlib.Core.List.{List}
use native.Mathlib.Omega.{arith}
use native.Mathlib.Numerals.{add-one}
use Rattle.base.proofs.Choice.{split, same_test, and_right}
use Rattle.model.specs.declared.Leg.{Leg}
use Rattle.model.specs.Lists.{upto}
use Rattle.model.specs.Tables.{Net}
use Rattle.repository.specs.Accepted.{Accepted}
use Rattle.repository.specs.Readable.{Readable}
use Rattle.repository.specs.NetOf.{net_of}
use Rattle.repository.specs.Rows.{trip_count, route_of_trip, Stands}
use Rattle.repository.proofs.Asked.{accepted_searchable, searchable_readable}
use Rattle.repository.proofs.Trips.{trip_known, stands}
use Rattle.repository.proofs.Standing.{standing_in, standing_trip_of, standing_only}
use Rattle.handheld.specs.Any.{any, Sought}
use Rattle.handheld.specs.Fitting.{leaves_at, comes_at, comes_from, fits_from, fits_trip, fits_ride}
use Rattle.handheld.proofs.Any.{any_at, any_is, sought_next, upto_step, upto_in, upto_has}
use Rattle.handheld.proofs.Legs.{both, comes_sound, comes_complete, ride_at, ride_is}
use Rattle.judge_rides.specs.Ridable.{Ridable, RidableAt}

-- ---- what the readers ask
module _ {w : List ℕ} {r v p : ℕ} (h : RidableAt w r v p) where
  pub at_readable : Readable w
  at_readable = searchable_readable (accepted_searchable (h.ridable.known tt))

  pub at_stands : Stands w v p
  at_stands = stands (accepted_searchable (h.ridable.known tt)) h.ridable.route h.ridable.trip h.position

pub standing_ridable : {w : List ℕ} {v r count : ℕ} → Accepted w → count ≡ trip_count w → v < count → r ≡ route_of_trip w v → Ridable w r v
standing_ridable {w} {v} ok e l f =
    let i : v < trip_count w = rw e at l in
    record { known = λ u. ok; route = rw f (standing_in ok i); trip = rw f (standing_trip_of ok i) }

-- ---- the two loops
module _ (n : Net) (r v : ℕ) (g : Leg) {len : ℕ} (e : len ≡ n.positions r) where
  pub comes_start : (a : ℕ) → Sought (comes_at n r v g) (comes_from n r v g a) (upto (len - a) a)
  unfolding comes_from
  comes_start a = record { rest = ap (λ (z : ℕ). any (comes_at n r v g) (upto (z - a) a)) e }

  pub trip_start : Sought (fits_from n r v g) (fits_trip n r v g) (upto (len - 0) 0)
  unfolding fits_trip
  trip_start = record { rest = ap (λ (z : ℕ). any (fits_from n r v g) (upto z 0)) (omega arith ∙ e) }

  module _ (b : ℕ) (h : Sought (fits_from n r v g) (fits_trip n r v g) (upto (len - b) b)) (l : b < len) {x : Bool} (f : x ≡ leaves_at n r v g b) where
    pub trip_next : x ≡ false → Sought (fits_from n r v g) (fits_trip n r v g) (upto (len - (b + 1)) (b + 1))
    unfolding fits_from
    trip_next t = let none : fits_from n r v g b ≡ false = rw (sym f ∙ t) in sought_next h (upto_step b len l) none

    -- a later position from which it may leave has no place to come to that this one has not
    pub trip_here : {y : Bool} → x ≡ true → y ≡ comes_from n r v g (b + 1) → y ≡ fits_trip n r v g
    unfolding fits_from
    trip_here t q = q ∙ ap (comes_from n r v g) (add-one b) ∙ same_test _ _ on back ∙ h.rest
      where
        on : comes_from n r v g (suc b) ≡ true → any (fits_from n r v g) (upto (len - b) b) ≡ true
        on c = any_is (fits_from n r v g) (upto_has (len - b) b b (omega arith) (omega arith)) (both (sym f ∙ t) c)

        back : any (fits_from n r v g) (upto (len - b) b) ≡ true → comes_from n r v g (suc b) ≡ true
        back c =
            let m = any_at (fits_from n r v g) (upto (len - b) b) c in
            let i = upto_in (len - b) b m.1 in
            let p = comes_sound n r v g (suc m.0) (and_right (leaves_at n r v g m.0) (comes_from n r v g (suc m.0)) m.2) in
            comes_complete n r v g (suc b) p.0 (omega (arith, i.0, p.1)) p.2 p.3

-- ---- the route that a trip stands in is the only one
module _ {w : List ℕ} (ok : Accepted w) (v : ℕ) (g : Leg) {count : ℕ} (e : count ≡ trip_count w) where
  pub ride_here : {r : ℕ} {x : Bool} → v < count → r ≡ route_of_trip w v → x ≡ fits_trip (net_of w) r v g → x ≡ fits_ride (net_of w) v g
  ride_here {r} l f q = q ∙ same_test _ _ on back
    where
      in_range_lem : v < trip_count w
      in_range_lem = rw e at l

      on : fits_trip (net_of w) r v g ≡ true → fits_ride (net_of w) v g ≡ true
      on c =
          let p = standing_trip_of ok in_range_lem in
          let here : fits_trip (net_of w) (route_of_trip w v) v g ≡ true = rw f at c in
          ride_is (net_of w) v g (route_of_trip w v) p.place (standing_in ok in_range_lem) p.within (sym p.trip) here

      back : fits_ride (net_of w) v g ≡ true → fits_trip (net_of w) r v g ≡ true
      back c =
          let m = ride_at (net_of w) v g c in
          let same : m.0 ≡ r = standing_only ok m.0 m.1 m.2 m.3 m.4 ∙ sym f in
          subst (λ (z : ℕ). fits_trip (net_of w) z v g ≡ true) same m.5

  -- a trip that the tables do not have stands in no route
  pub ride_nowhere : count ≤ v → false ≡ fits_ride (net_of w) v g
  ride_nowhere l =
      split (fits_ride (net_of w) v g)
      (λ c.
      let m = ride_at (net_of w) v g c in
      let there = trip_known (accepted_searchable ok) m.2 (record { place = m.1; within = m.3; trip = sym m.4 }) in
      absurd (omega arith))
      (λ c. sym c)
