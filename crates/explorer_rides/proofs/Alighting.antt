-- Alighting as the code does it, in both directions: what it read and tested, turned into a case of `alight_work`.
use Prim.Native.Nat.{ℕ, ◌*◌}
use mathlib.Core.Path.{◌≡◌, refl, sym, ap, ◌∙◌}
use mathlib.Core.Bool.{Bool, true, false, cond, ◌&&◌, true≢false}
use mathlib.Core.List.{List}
use lib.Dec.{eqb}
use lib.ListN.{get_or}
use borrow.Author.Tests.{eq-eqb, ne_eqb, eqb-true, eqb-false}
use Rattle.base.proofs.Choice.{split, and_left}
use Rattle.model.specs.declared.Direction.{Direction}
use Rattle.model.specs.declared.Leg.{Leg}
use Rattle.model.specs.Moments.{MAX, better, ahead}
use Rattle.model.specs.Applying.{wins}
use Rattle.model.specs.Work.{Work}
use Rattle.repository.specs.NetOf.{net_of}
use Rattle.allocator.specs.Layout.{view}
use Rattle.allocator.specs.Workspace.{state, best}
use Rattle.allocator.specs.declared.Workspace.{Workspace}
use Rattle.allocator.specs.Operations.{applied}
use Rattle.explorer.specs.declared.Round.{Round}
use Rattle.explorer.specs.Fixed.{Fixed}
use Rattle.explorer.specs.Fused.{offered, alight_work}
use Rattle.explorer.proofs.Fused.{idle}
use Rattle.explorer_rides.specs.declared.Call.{Call}
use Rattle.explorer_rides.specs.declared.Ride.{Ride}
use Rattle.explorer_rides.specs.Riding.{aboard, Seat, Seated, ride_leg, OnRoute, reach_in}
use Rattle.explorer_rides.specs.declared.position.Seen.{Seen}
use Rattle.explorer_rides.specs.Looking.{proposes_at, look_at}
use Rattle.explorer_rides.proofs.Seats.{seat_on, aboard_on, aboard_off}
use Rattle.explorer_rides.proofs.Times.{reach_is}

-- ---- the tests
module _ (d : Direction) (w : List ℕ) (target b : ℕ) (here : Call) (a : Ride) {t : ℕ} (g : t ≡ reach_in d w a.row here.position)
    {c : Bool} (e : c ≡ ahead d t target) where
  pub both_tested : {best : ℕ} {both : Bool} → c ≡ true → best ≡ b → both ≡ better d t best → both ≡ proposes_at d w target b here a
  unfolding proposes_at
  both_tested f i h = h ∙ rw (← g, sym e ∙ f, i)

  pub one_failed : c ≡ false → false ≡ proposes_at d w target b here a
  unfolding proposes_at
  one_failed f = rw (← g, sym e ∙ f)

-- ---- a proposal
module _ (d : Direction) (row target s m : ℕ) (g : Leg) (x : Work) where
  offer_ahead : ahead d m target ≡ true → offered d row target s m g x ≡ applied d row s m g x
  unfolding offered
  offer_ahead e = rw e

  offer_not : ahead d m target && wins d s m x.labels ≡ false → offered d row target s m g x ≡ x
  unfolding offered
  offer_not e = go (ahead d m target) e
    where
      go : (b : Bool) → b && wins d s m x.labels ≡ false → cond b (applied d row s m g x) x ≡ x
      go true f = idle d row s m g x f
      go false f = refl

-- ---- nobody is aboard
alight_off : (w : List ℕ) (round : Round) (here : Call) (x : Work) (a : Ride) → a.place ≡ MAX
    → x ≡ alight_work round.direction (net_of w) round.number round.target.0 here.route here.position (aboard a) x
unfolding alight_work
alight_off w round here x a e = rw (aboard_off a e)

-- ---- the leg that the code makes is the one proposed
pub proposed : (w : List ℕ) (round : Round) (here : Call) (a : Ride) (x : Work) (stops : ℕ) {t : ℕ} {g : Leg} {y : Work}
    → t ≡ reach_in round.direction w a.row here.position
    → g ≡ ride_leg round.direction (net_of w) here.route a here.stop t
    → y ≡ applied round.direction (round.number * stops) here.stop t g x
    → y
    ≡ applied round.direction (round.number * stops) here.stop (reach_in round.direction w a.row here.position)
    (ride_leg round.direction (net_of w) here.route a here.stop (reach_in round.direction w a.row here.position)) x
proposed w round here a x stops e f k = rw (f, e) at k

-- ---- a trip is aboard, and comes to the stop of this position
module _ {w : List ℕ} {here : Call} {a : Ride} (round : Round) (space : Workspace) (fixed : Fixed w space.stops space.routes) (q : OnRoute w here)
    (z : Seated w here.route a) where
  alight_on : (a.place ≡ MAX → ⊥) → (x : Work)
      → alight_work round.direction (net_of w) round.number round.target.0 here.route here.position (aboard a) x
      ≡ offered round.direction (round.number * space.stops) round.target.0 here.stop (reach_in round.direction w a.row here.position)
      (ride_leg round.direction (net_of w) here.route a here.stop (reach_in round.direction w a.row here.position)) x
  unfolding alight_work ride_leg
  alight_on e x =
      let is = reach_is w a.trip here.position (seat_on z e).times round.direction refl in
      rw (aboard_on a e, q.stop, fixed.net_stops, is)

  module _ {seen : Seen}
      (f : seen ≡ look_at round.direction w round.target.0 (get_or (best space) here.stop 0) here a) where
    looked : seen.proposes
        ≡ cond (eqb a.place MAX) false
        (ahead round.direction (reach_in round.direction w a.row here.position) round.target.0
        && better round.direction (reach_in round.direction w a.row here.position) (get_or (best space) here.stop 0))
    unfolding look_at proposes_at
    looked = ap (λ (y : Seen). y.proposes) f

    -- the target or the stop has seen as good, or nobody is aboard
    pub alight_not : seen.proposes ≡ false
        → state space ≡ alight_work round.direction (net_of w) round.number round.target.0 here.route here.position (aboard a) (state space)
    unfolding wins view
    alight_not g =
        let x = state space in
        let t = reach_in round.direction w a.row here.position in
        let leg = ride_leg round.direction (net_of w) here.route a here.stop t in
        split (eqb a.place MAX) (λ e. alight_off w round here x a (eqb-true a.place MAX e))
        (λ e.
        sym (alight_on (eqb-false a.place MAX e) x
        ∙ offer_not round.direction (round.number * space.stops) round.target.0 here.stop t leg x (rw e at (sym looked ∙ g))))

    module _ (g : seen.proposes ≡ true) where
      seen_real : a.place ≡ MAX → ⊥
      seen_real e = true≢false (sym g ∙ looked ∙ rw (eq-eqb a.place MAX e))

      pub seen_seat : Seat w here.route a
      seen_seat = seat_on z seen_real

      pub alight_take : {y : Work}
          → y
          ≡ applied round.direction (round.number * space.stops) here.stop (reach_in round.direction w a.row here.position)
          (ride_leg round.direction (net_of w) here.route a here.stop (reach_in round.direction w a.row here.position)) (state space)
          → y ≡ alight_work round.direction (net_of w) round.number round.target.0 here.route here.position (aboard a) (state space)
      alight_take k =
          let x = state space in
          let t = reach_in round.direction w a.row here.position in
          let leg = ride_leg round.direction (net_of w) here.route a here.stop t in
          let fits = rw (ne_eqb a.place MAX seen_real) at (sym looked ∙ g) in
          let taken = offer_ahead round.direction (round.number * space.stops) round.target.0 here.stop t leg x (and_left _ _ fits) in
          k ∙ sym (alight_on seen_real x ∙ taken)
