-- A leg fits the tables exactly where it is `Ridden` or `Walked`.
-- Assumes nothing.
use Prim.Native.Nat.{ℕ, suc, ◌-◌, ◌≤◌, ◌<◌}
use mathlib.Core.Path.{◌≡◌, refl, sym, ap, ◌∙◌, subst}
use mathlib.Core.Bool.{Bool, true, false, ◌&&◌, false≢true}
use mathlib.Core.List.{Memᴰ}
use native.Mathlib.Omega.{arith}
use lib.Dec.{ltb, leb, eqb}
use borrow.Author.Tests.{eqb-true, eq-eqb, leb-true, le-leb, lt-ltb}
use Rattle.base.proofs.Choice.{split, and_left, and_right}
use Rattle.model.specs.declared.Leg.{Leg}
use Rattle.model.specs.declared.LegType.{LegType}
use Rattle.model.specs.declared.LegType.TheVariants.{Transit, Transfer, Walk}
use Rattle.model.specs.Lists.{upto}
use Rattle.model.specs.Tables.{Net}
use Rattle.model.specs.Journey.{Ridden, Walked, Allowed, listed_under}
use Rattle.handheld.specs.Any.{any}
use Rattle.handheld.specs.Fitting.{leaves_at, comes_at, comes_from, fits_from, fits_trip, stands_at, fits_route, fits_ride}
use Rattle.handheld.specs.Fitting.{fits_foot, fits_path, fits_leg}
use Rattle.handheld.proofs.Any.{any_at, any_is, upto_in, upto_has}

pub both : {a b : Bool} → a ≡ true → b ≡ true → a && b ≡ true
both e f = rw (e, f)

pub false_is : {C : Type 0} → false ≡ true → C
false_is e = absurd (false≢true e)

-- ---- a ride

-- at two positions of trip v of route r
record FitsAt (n : Net) (r v : ℕ) (g : Leg) (b a : ℕ) : Type 0 where
  from : n.stop_at r b ≡ g.from
  departure : n.departure v b ≡ g.departure.0
  to : n.stop_at r a ≡ g.to
  arrival : n.arrival v a ≡ g.arrival.0

module _ (n : Net) (r v : ℕ) (g : Leg) where
  pub comes_sound : (a : ℕ) → comes_from n r v g a ≡ true → (p : ℕ) × (a ≤ p) × (p < n.positions r) × (comes_at n r v g p ≡ true)
  unfolding comes_from
  comes_sound a e =
      let m = any_at (comes_at n r v g) (upto (n.positions r - a) a) e in
      let i = upto_in (n.positions r - a) a m.1 in
      (m.0, i.0, omega (arith, i.0, i.1), m.2)

  pub comes_complete : (a p : ℕ) → a ≤ p → p < n.positions r → comes_at n r v g p ≡ true → comes_from n r v g a ≡ true
  unfolding comes_from
  comes_complete a p h i e = any_is (comes_at n r v g) (upto_has (n.positions r - a) a p h (omega arith)) e

  trip_sound : fits_trip n r v g ≡ true → (b : ℕ) × (a : ℕ) × (b < a) × (a < n.positions r) × FitsAt n r v g b a
  unfolding fits_trip fits_from leaves_at comes_at
  trip_sound e =
      let m = any_at (fits_from n r v g) (upto (n.positions r) 0) e in
      let b = m.0 in
      let l = and_left (leaves_at n r v g b) (comes_from n r v g (suc b)) m.2 in
      let c = comes_sound (suc b) (and_right (leaves_at n r v g b) (comes_from n r v g (suc b)) m.2) in
      let a = c.0 in (
        b,
        a,
        omega (arith, c.1),
        c.2,
        record {
          from = eqb-true (n.stop_at r b) g.from (and_left _ (eqb (n.departure v b) g.departure.0) l);
          departure = eqb-true (n.departure v b) g.departure.0 (and_right (eqb (n.stop_at r b) g.from) _ l);
          to = eqb-true (n.stop_at r a) g.to (and_left _ (eqb (n.arrival v a) g.arrival.0) c.3);
          arrival = eqb-true (n.arrival v a) g.arrival.0 (and_right (eqb (n.stop_at r a) g.to) _ c.3);
        },
      )

  trip_complete : (b a : ℕ) → b < a → a < n.positions r → FitsAt n r v g b a → fits_trip n r v g ≡ true
  unfolding fits_trip fits_from leaves_at comes_at
  trip_complete b a on within f =
      any_is (fits_from n r v g) (upto_has (n.positions r) 0 b (omega arith) (omega arith))
      (both (both (eq-eqb _ _ f.from) (eq-eqb _ _ f.departure))
      (comes_complete (suc b) a (omega arith) within (both (eq-eqb _ _ f.to) (eq-eqb _ _ f.arrival))))

module _ (n : Net) (v : ℕ) (g : Leg) where
  -- "trip v stands in a route, and fits there"
  pub ride_at : fits_ride n v g ≡ true
      → (r : ℕ) × (i : ℕ) × (r < n.routes) × (i < n.trips r) × (n.trip_at r i ≡ v) × (fits_trip n r v g ≡ true)
  unfolding fits_ride fits_route stands_at
  ride_at e =
      let m = any_at (fits_route n v g) (upto n.routes 0) e in
      let r = m.0 in
      let s = any (stands_at n r v) (upto (n.trips r) 0) in
      let p = any_at (stands_at n r v) (upto (n.trips r) 0) (and_left s (fits_trip n r v g) m.2) in (
        r,
        p.0,
        omega (arith, (upto_in n.routes 0 m.1).1),
        omega (arith, (upto_in (n.trips r) 0 p.1).1),
        eqb-true (n.trip_at r p.0) v p.2,
        and_right s (fits_trip n r v g) m.2,
      )

  pub ride_is : (r i : ℕ) → r < n.routes → i < n.trips r → n.trip_at r i ≡ v → fits_trip n r v g ≡ true → fits_ride n v g ≡ true
  unfolding fits_ride fits_route stands_at
  ride_is r i hr hi t e =
      any_is (fits_route n v g) (upto_has n.routes 0 r (omega arith) (omega arith))
      (both (any_is (stands_at n r v) (upto_has (n.trips r) 0 i (omega arith) (omega arith)) (eq-eqb _ _ t)) e)

  module _ (k : g.kind ≡ Transit v) where
    pub ride_sound : fits_ride n v g ≡ true → Ridden n g
    ride_sound e =
        let m = ride_at e in
        let r = m.0 in
        let t = m.4 in
        let p = trip_sound n r v g m.5 in
        let f = p.4 in
        record {
          route = r;
          place = m.1;
          boards = p.0;
          alights = p.1;
          routes = m.2;
          trips = m.3;
          onward = p.2;
          within = p.3;
          kind = k ∙ ap Transit (sym t);
          from = sym f.from;
          to = sym f.to;
          departure = sym f.departure ∙ ap (λ (x : ℕ). n.departure x p.0) (sym t);
          arrival = sym f.arrival ∙ ap (λ (x : ℕ). n.arrival x p.1) (sym t);
        }

    pub ride_complete : Ridden n g → fits_ride n v g ≡ true
    ride_complete d =
        let r = d.route in
        let t : n.trip_at r d.place ≡ v = cc in
        ride_is r d.place d.routes d.trips t
        (trip_complete n r v g d.boards d.alights d.onward d.within (record {
          from = sym d.from;
          departure = ap (λ (x : ℕ). n.departure x d.boards) (sym t) ∙ sym d.departure;
          to = sym d.to;
          arrival = ap (λ (x : ℕ). n.arrival x d.alights) (sym t) ∙ sym d.arrival;
        }))

-- ---- a footpath
module _ (n : Net) (walking : Bool) (g : Leg) where
  path_sound : (c : LegType) → g.kind ≡ c → Allowed walking c → fits_path n g (listed_under n c g.from) ≡ true
      → Walked n walking g.from g.to g
  unfolding fits_path fits_foot
  path_sound c k ok e =
      let p = leb g.departure.0 g.arrival.0 in
      let q = any (fits_foot g) (listed_under n c g.from) in
      let e₁ = and_right (ltb g.from n.stops) (p && q) e in
      let h = leb-true g.departure.0 g.arrival.0 (and_left p q e₁) in
      let m = any_at (fits_foot g) (listed_under n c g.from) (and_right p q e₁) in
      let f = m.0 in
      let s : f.span ≡ g.arrival.0 - g.departure.0 = eqb-true _ _ (and_right (eqb f.to g.to) _ m.2) in
      record {
        foot = f;
        listed = subst (λ (x : LegType). Memᴰ f (listed_under n x g.from)) (sym k) m.1;
        allowed = subst (λ (x : LegType). Allowed walking x) (sym k) ok;
        leads = sym (eqb-true f.to g.to (and_left _ (eqb f.span (g.arrival.0 - g.departure.0)) m.2));
        span = omega arith;
      }

  path_complete : (c : LegType) → g.kind ≡ c → g.from < n.stops → Walked n walking g.from g.to g
      → fits_path n g (listed_under n c g.from) ≡ true
  unfolding fits_path fits_foot
  path_complete c k i w =
      let l : Memᴰ w.foot (listed_under n c g.from) = rw k at w.listed in
      let s = w.span in
      both (lt-ltb g.from n.stops i)
      (both (le-leb g.departure.0 g.arrival.0 (omega arith))
      (any_is (fits_foot g) l
      (both (eq-eqb w.foot.to g.to (sym w.leads)) (eq-eqb w.foot.span (g.arrival.0 - g.departure.0) (omega arith)))))

  -- ---- a leg that is no ride
  pub walk_sound : (c : LegType) → g.kind ≡ c → (isFoot : (v : ℕ) → c ≡ Transit v → ⊥) → fits_leg n walking c g ≡ true
      → Walked n walking g.from g.to g
  unfolding fits_leg
  walk_sound (Transit v) k foot e = absurd (foot v refl)
  walk_sound Transfer k foot e = path_sound Transfer k tt e
  walk_sound Walk k foot e = split walking (λ t. path_sound Walk k t (rw t at e)) (λ t. false_is (rw t at e))

  pub walk_complete : (c : LegType) → g.kind ≡ c → g.from < n.stops → Walked n walking g.from g.to g → fits_leg n walking c g ≡ true
  unfolding fits_leg
  walk_complete (Transit v) k i w = absurd (rw k at w.allowed)
  walk_complete Transfer k i w = path_complete Transfer k i w
  walk_complete Walk k i w = let t : walking ≡ true = rw k at w.allowed in rw t (path_complete Walk k i w)
