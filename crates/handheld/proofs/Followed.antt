-- Legs can be followed exactly where they are `Joined`.
-- Assumes nothing.
use Prim.Native.Nat.{ℕ, suc, ◌+◌, ◌≤◌, ◌<◌}
use mathlib.Core.Path.{◌≡◌, refl, sym, ap, ◌∙◌, subst}
use mathlib.Core.Bool.{Bool, true, false, ◌&&◌}
use mathlib.Core.List.{List, [], ◌∷◌}
use native.Mathlib.Omega.{arith}
use native.Mathlib.Nat.{add-zero}
use lib.Dec.{leb, eqb}
use borrow.Author.Tests.{eqb-true, eq-eqb, leb-true, le-leb}
use Rattle.base.proofs.Choice.{split, and_left, and_right}
use Rattle.model.specs.declared.Leg.{Leg}
use Rattle.model.specs.declared.LegType.{LegType}
use Rattle.model.specs.declared.LegType.TheVariants.{Transit, Transfer, Walk}
use Rattle.model.specs.Tables.{Net}
use Rattle.model.specs.Limits.{MOST_ROUNDS}
use Rattle.model.specs.Journey.{Allowed}
use Rattle.model.specs.Sound.{Sound}
use Rattle.handheld.specs.declared.Led.{Led}
use Rattle.std.specs.Prelude.{None, Some}
use Rattle.handheld.specs.Right.{Joined, done, by_ride, by_path, ends_with_ride}
use Rattle.handheld.specs.Fitting.{fits_ride, fits_leg}
use Rattle.handheld.specs.Verdict.{rides_with, follows, led, leg_on, follow}
use Rattle.handheld.proofs.Legs.{both, ride_sound, ride_complete, walk_sound, walk_complete}

module _ (n : Net) (walking : Bool) where
  -- ---- one leg
  onward_to : (g : Leg) (e : Led) → follows n walking g e ≡ true → leg_on n walking g e ≡ Some (led g e)
  unfolding leg_on
  onward_to g e t = rw t

  onward_wrong : (g : Leg) (e : Led) → follows n walking g e ≡ false → leg_on n walking g e ≡ None
  unfolding leg_on
  onward_wrong g e t = rw t

  pub follow_to : (g : Leg) (gs : List Leg) (e f : Led) → leg_on n walking g e ≡ Some f → follow n walking (g ∷ gs) e ≡ follow n walking gs f
  unfolding follow
  follow_to g gs e f t = rw (t, follow)

  pub follow_wrong : (g : Leg) (gs : List Leg) (e : Led) → leg_on n walking g e ≡ None → follow n walking (g ∷ gs) e ≡ None
  unfolding follow
  follow_wrong g gs e t = rw (t, follow)

  -- legs that can be followed: so can the first, and then the others
  pub follow_first : (g : Leg) (gs : List Leg) (e f : Led) → follow n walking (g ∷ gs) e ≡ Some f
      → (follows n walking g e ≡ true) × (follow n walking gs (led g e) ≡ Some f)
  follow_first g gs e f h =
      split (follows n walking g e)
      (λ t. (t, sym (follow_to g gs e (led g e) (onward_to g e t)) ∙ h))
      (λ t. let z = sym (follow_wrong g gs e (onward_wrong g e t)) ∙ h in cc)

  -- ---- what is followed is joined
  most_rides : (g : Leg) (e : Led) → follows n walking g e ≡ true → rides_with g.kind e.rides ≤ MOST_ROUNDS
  unfolding follows
  most_rides g e t =
      let a = eqb g.from e.stop in
      let b = leb e.moment g.departure.0 in
      let c = leb (rides_with g.kind e.rides) MOST_ROUNDS in
      let d = fits_leg n walking g.kind g in
      leb-true _ _ (and_left c d (and_right b (c && d) (and_right a (b && (c && d)) t)))

  pub onward_few : (g : Leg) (e f : Led) → leg_on n walking g e ≡ Some f → f.rides ≤ MOST_ROUNDS
  unfolding led
  onward_few g e f h =
      split (follows n walking g e)
      (λ t.
      let q : led g e ≡ f = same (sym (onward_to g e t) ∙ h) in
      subst (λ (x : Led). x.rides ≤ MOST_ROUNDS) q (most_rides g e t))
      (λ t. let z = sym (onward_wrong g e t) ∙ h in cc)
    where
      same : {x y : Led} → Some x ≡ Some y → x ≡ y
      same e = cc

  joined_on : (g : Leg) (gs : List Leg) (e : Led) {u y k : ℕ} → follows n walking g e ≡ true
      → Joined n walking g.to g.arrival.0 u y k gs
      → (j : ℕ) × (rides_with g.kind e.rides + k ≡ e.rides + j) × Joined n walking e.stop e.moment u y j (g ∷ gs)
  unfolding follows rides_with fits_leg
  joined_on g gs e {u} {y} {k} t rest =
      let a = eqb g.from e.stop in
      let b = leb e.moment g.departure.0 in
      let c = leb (rides_with g.kind e.rides) MOST_ROUNDS in
      let d = fits_leg n walking g.kind g in
      let t₁ = and_right a (b && (c && d)) t in
      go g.kind refl (eqb-true _ _ (and_left a (b && (c && d)) t)) (leb-true _ _ (and_left b (c && d) t₁))
      (and_right c d (and_right b (c && d) t₁))
    where
      go : (c : LegType) → g.kind ≡ c → g.from ≡ e.stop → e.moment ≤ g.departure.0 → fits_leg n walking c g ≡ true
          → (j : ℕ) × (rides_with c e.rides + k ≡ e.rides + j) × Joined n walking e.stop e.moment u y j (g ∷ gs)
      go (Transit v) q a b fit = (suc k, omega arith, by_ride g (ride_sound n v g q fit) a b rest)
      go Transfer q a b fit = (k, refl, by_path g (walk_sound n walking g Transfer q (λ v z. other z) fit) a b rest)
        where
          other : {v : ℕ} → Transfer ≡ Transit v → ⊥
          other z = cc
      go Walk q a b fit = (k, refl, by_path g (walk_sound n walking g Walk q (λ v z. other z) fit) a b rest)
        where
          other : {v : ℕ} → Walk ≡ Transit v → ⊥
          other z = cc

  pub follow_sound : (gs : List Leg) (e f : Led) → e.rides ≤ MOST_ROUNDS → follow n walking gs e ≡ Some f
      → (j : ℕ) × (f.rides ≡ e.rides + j) × (f.rides ≤ MOST_ROUNDS)
      × Joined n walking e.stop e.moment f.stop f.moment j gs
  unfolding follow led
  follow_sound [] e f m h =
      let q : e ≡ f = cc in
      subst (λ (x : Led). (j : ℕ) × (x.rides ≡ e.rides + j) × (x.rides ≤ MOST_ROUNDS)
      × Joined n walking e.stop e.moment x.stop x.moment j []) q (0, sym (add-zero e.rides), m, done)
  follow_sound (g ∷ gs) e f m h =
      let t = follow_first g gs e f h in
      let later = follow_sound gs (led g e) f (most_rides g e t.0) t.1 in
      let on = joined_on g gs e t.0 later.3 in
      (on.0, later.1 ∙ on.1, later.2, on.2)

  -- whether the last leg was a ride
  pub follow_ends : (g : Leg) (gs : List Leg) (e f : Led) → follow n walking (g ∷ gs) e ≡ Some f → f.rode ≡ ends_with_ride (g ∷ gs)
  unfolding follow led ends_with_ride
  follow_ends g [] e f h =
      let t = follow_first g [] e f h in
      let q : led g e ≡ f = same t.1 in
      ap (λ (x : Led). x.rode) (sym q)
    where
      same : {x y : Led} → Some x ≡ Some y → x ≡ y
      same e = cc
  follow_ends g (h ∷ hs) e f p = follow_ends h hs (led g e) f (follow_first g (h ∷ hs) e f p).1

  -- ---- and what is joined can be followed, from a stop that the tables have
  module _ (ok : Sound n) where
    follows_is : (g : Leg) (e : Led) → g.from ≡ e.stop → e.moment ≤ g.departure.0 → rides_with g.kind e.rides ≤ MOST_ROUNDS
        → fits_leg n walking g.kind g ≡ true → follows n walking g e ≡ true
    unfolding follows
    follows_is g e a b c d = both (eq-eqb _ _ a) (both (le-leb _ _ b) (both (le-leb _ _ c) d))

    pub follow_complete : {s x u y j : ℕ} {gs : List Leg} → Joined n walking s x u y j gs → s < n.stops → (e : Led) → e.stop ≡ s
        → e.moment ≡ x → e.rides + j ≤ MOST_ROUNDS
        → (f : Led) × (follow n walking gs e ≡ Some f) × (f.stop ≡ u) × (f.moment ≡ y)
    unfolding follow led rides_with fits_leg
    follow_complete done i e es ex l = (e, refl, es, ex)
    follow_complete (by_ride {k = j} {gs = gs} g d a b c) i e es ex l =
        let v = n.trip_at d.route d.place in
        let q : g.kind ≡ Transit v = d.kind in
        let fit = rides v (ride_complete n v g q d) g.kind q in
        let most : rides_with g.kind e.rides ≤ MOST_ROUNDS = rw q (omega arith) in
        let to : g.to < n.stops = rw d.to (ok.stops_in d.route d.alights d.routes d.within) in
        let t = follows_is g e (a ∙ sym es) (omega (arith, b, ex)) most fit in
        let count : rides_with g.kind e.rides ≡ suc e.rides = rw q in
        let later = follow_complete c to (led g e) refl refl (omega (arith, count)) in
        (later.0, follow_to g gs e (led g e) (onward_to g e t) ∙ later.1, later.2, later.3)
      where
        rides : (v : ℕ) → fits_ride n v g ≡ true → (c : LegType) → c ≡ Transit v → fits_leg n walking c g ≡ true
        rides v e c q = rw q e
    follow_complete (by_path {k = j} {gs = gs} g w a b c) i e es ex l =
        let from : g.from < n.stops = rw a i in
        let fit = walk_complete n walking g g.kind refl from w in
        let count = no_ride g.kind w.allowed in
        let to : g.to < n.stops = rw w.leads (ok.feet_in g.kind g.from w.foot from w.listed) in
        let t = follows_is g e (a ∙ sym es) (omega (arith, b, ex)) (omega (arith, count)) fit in
        let later = follow_complete c to (led g e) refl refl (omega (arith, count)) in
        (later.0, follow_to g gs e (led g e) (onward_to g e t) ∙ later.1, later.2, later.3)
      where
        no_ride : (c : LegType) → Allowed walking c → rides_with c e.rides ≡ e.rides
        no_ride (Transit v) h = absurd h
        no_ride Transfer h = refl
        no_ride Walk h = refl
