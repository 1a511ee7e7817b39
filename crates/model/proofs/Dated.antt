-- Every moment of a journey is one of the timetable's, or the end of a listed footpath that left at one: no stand-in for a moment stands in
-- a leg. For departure and arrival queries alike, both modes, and every order of the proposals.
use Prim.Native.Nat.{ℕ, ◌≤◌, ◌<◌}
use mathlib.Core.Path.{◌≡◌, refl}
use mathlib.Core.Bool.{Bool}
use mathlib.Core.List.{List}
use native.Mathlib.Omega.{arith}
use Rattle.base.specs.Each.{Each, nil, cons}
use Rattle.model.specs.declared.Direction.{Direction}
use Rattle.model.specs.declared.Direction.TheVariants.{Departure, Arrival}
use Rattle.model.specs.declared.Leg.{Leg}
use Rattle.model.specs.Tables.{Net}
use Rattle.model.specs.Limits.{LAST_MOMENT}
use Rattle.model.specs.State.{Task}
use Rattle.model.specs.Round.{Order, Fair}
use Rattle.model.specs.Search.{search}
use Rattle.model.specs.Back.{near, journey}
use Rattle.model.specs.Journey.{Ridden, Walked, MeetsTrip, Chain, stay, ride_on, walk_on, Dated}
use Rattle.model.specs.Sound.{Sound, Narrow, Asked}
use Rattle.model.proofs.Reversed.{order_each}
use Rattle.model.proofs.Trail.{far, near_at, far_at, Goes, Trail, begin, rode, went, trail_in}
use Rattle.model.proofs.Rides.{later}
use Rattle.model.proofs.Journeys.{trail}

module _ (n : Net) (ok : Sound n) where
  ride_dated : (g : Leg) → Ridden n g → Dated g
  ride_dated g r =
      let boards : r.boards < n.positions r.route = omega (arith, r.onward, r.within) in
      let one = ok.from_one r.route r.place r.boards r.routes r.trips boards in
      let waits = ok.stays r.route r.place r.boards r.routes r.trips boards in
      let leaves = ok.to_million r.route r.place r.boards r.routes r.trips boards in
      let rides = later n ok r.route r.place r.boards r.alights r.routes r.trips r.onward r.within in
      let stays = ok.stays r.route r.place r.alights r.routes r.trips r.within in
      let comes = ok.to_million r.route r.place r.alights r.routes r.trips r.within in
      record {
        from_one = rw r.departure (omega (arith, one, waits));
        onward = rw (r.departure, r.arrival) rides;
        to_million = rw r.departure leaves;
        to_end = rw r.arrival (omega (arith, stays, comes));
      }

  -- a footpath starts within the timetable
  pub timed_bounds : (d : Direction) (g : Leg) → MeetsTrip d n g → (0 < near_at d g) × (near_at d g ≤ LAST_MOMENT)
  timed_bounds Departure g c =
      let one = ok.from_one c.route c.place c.position c.routes c.trips c.within in
      let stays = ok.stays c.route c.place c.position c.routes c.trips c.within in
      let top = ok.to_million c.route c.place c.position c.routes c.trips c.within in
      rw c.moment (one, omega (arith, stays, top))
  timed_bounds Arrival g c =
      let one = ok.from_one c.route c.place c.position c.routes c.trips c.within in
      let stays = ok.stays c.route c.place c.position c.routes c.trips c.within in
      let top = ok.to_million c.route c.place c.position c.routes c.trips c.within in
      rw c.moment (omega (arith, one, stays), top)

  module _ (narrow : Narrow n) where
    foot_dated : (d : Direction) (walking : Bool) (g : Leg) → Walked n walking (near d g) (far d g) g → near d g < n.stops → MeetsTrip d n g
        → (d ≡ Arrival → 0 < far_at d g) → Dated g
    foot_dated Departure walking g w i c p =
        let b = timed_bounds Departure g c in
        let span = narrow.spans g.kind g.from w.foot i w.listed in
        let takes = w.span in
        record { from_one = b.0; onward = omega arith; to_million = b.1; to_end = omega (arith, b.1) }
    foot_dated Arrival walking g w i c p =
        let b = timed_bounds Arrival g c in
        let takes = w.span in
        record { from_one = p refl; onward = omega arith; to_million = omega (arith, b.1); to_end = omega (arith, b.1) }

    -- so it is in every chain: no leg of one leaves or arrives at anything but a moment
    pub chain_dated : (d : Direction) (v : Bool) {s x u y k : ℕ} {gs : List Leg} → s < n.stops → 0 < x → Chain d n v s x u y k gs → Each Dated gs
    chain_dated d v i h stay = nil
    chain_dated d v i h (ride_on g r e x c) =
        let o = ride_dated g r in
        let b = o.from_one in
        let f = o.onward in
        cons o (chain_dated d v (rw r.to (ok.stops_in r.route r.alights r.routes r.within)) (omega arith) c)
    chain_dated d v i h (walk_on g w t e x c) =
        let here : g.from < n.stops = rw e i in
        let o = step d here t in
        let b = o.from_one in
        let f = o.onward in
        cons o (chain_dated d v (rw w.leads (ok.feet_in g.kind g.from w.foot here w.listed)) (omega arith) c)
      where
        step : (d : Direction) → g.from < n.stops → MeetsTrip d n g → Dated g
        step Departure j t = foot_dated Departure v g w j t (λ e. let z : ◌≡◌ {A = ℕ} 0 1 = cc in absurd (omega arith))
        step Arrival j t =
            let b = timed_bounds Arrival g t in
            let takes = w.span in
            record { from_one = omega arith; onward = omega arith; to_million = omega (arith, b.1); to_end = omega (arith, b.1) }

    -- an arrival search goes back in time, and never past its last moment
    behind : (d : Direction) (g : Leg) (x : ℕ) → Goes d x (near_at d g) → Dated g → (d ≡ Arrival → 0 < far_at d g) → d ≡ Arrival → 0 < x
    behind Departure g x h o p e = let z : ◌≡◌ {A = ℕ} 0 1 = cc in absurd (omega arith)
    behind Arrival g x h o p e = let y = o.onward in omega (arith, p refl)

    module _ (q : Task) (asked : Asked n q) where
      pub trail_dated : {k s m : ℕ} {gs : List Leg} → Trail n q k s m gs → (q.direction ≡ Arrival → 0 < m) → Each Dated gs
      trail_dated (begin s i) p = nil
      trail_dated (rode g y r e h) p =
          let o = ride_dated g r in cons o (trail_dated y (behind q.direction g _ h o p))
      trail_dated (went g y w e h b) p =
          let o = foot_dated q.direction q.walking g w (rw e (trail_in n ok q asked y)) b p in
          cons o (trail_dated y (behind q.direction g _ h o p))

      pub journey_dated : (o : Order) → Fair o → 0 < (search n q o).times.target.time.0 → Each Dated (journey n q (search n q o))
      unfolding journey
      journey_dated o fair h = order_each q.direction (trail_dated (trail n ok q asked o fair h) (λ e. h))
