-- The check says yes exactly where the legs are right.
-- Assumes nothing.
use Prim.Native.Nat.{ℕ, ◌≤◌, ◌<◌}
use mathlib.Core.Path.{◌≡◌, refl, sym, ap, ◌∙◌, subst}
use mathlib.Core.Bool.{Bool, true, false, ◌&&◌}
use mathlib.Core.List.{List, [], ◌∷◌, Memᴰ}
use native.Mathlib.Omega.{arith}
use native.Mathlib.Nat.{zero-add}
use lib.Dec.{leb, eqb}
use borrow.Author.Tests.{eqb-true, eq-eqb, leb-true, le-leb}
use Rattle.base.proofs.Choice.{and_left, and_right}
use Rattle.model.specs.declared.Leg.{Leg}
use Rattle.model.specs.declared.LegType.{LegType}
use Rattle.model.specs.declared.LegType.TheVariants.{Transit, Transfer, Walk}
use Rattle.model.specs.declared.Query.{Query}
use Rattle.model.specs.declared.TimeConstraint.{TimeConstraint}
use Rattle.model.specs.declared.TimeConstraint.TheVariants.{Departure, Arrival}
use Rattle.model.specs.Tables.{Net}
use Rattle.model.specs.Places.{place_stops}
use Rattle.model.specs.Answer.{may_walk}
use Rattle.model.specs.Journey.{Allowed}
use Rattle.model.specs.Sound.{Sound}
use Rattle.handheld.specs.declared.Led.{Led}
use Rattle.std.specs.Prelude.{Option, None, Some}
use Rattle.handheld.specs.Right.{Joined, done, by_ride, by_path, is_ride, begins_with_ride, ends_with_ride, RideInPlace, InTime, Right}
use Rattle.handheld.specs.Verdict.{is_listed, follow, may_begin, may_end, at_start, comes_in, verdict}
use Rattle.handheld.proofs.Any.{any_at, any_is}
use Rattle.handheld.proofs.Legs.{both, false_is}
use Rattle.handheld.proofs.Followed.{follow_sound, follow_ends, follow_complete}

-- ---- a place's stops
pub listed_mem : (s : ℕ) (l : List ℕ) → is_listed s l ≡ true → Memᴰ s l
unfolding is_listed
listed_mem s l e =
    let m = any_at (eqb s) l e in
    subst (λ (x : ℕ). Memᴰ x l) (sym (eqb-true s m.0 m.2)) m.1

pub mem_listed : {s : ℕ} {l : List ℕ} → Memᴰ s l → is_listed s l ≡ true
unfolding is_listed
mem_listed {s} {l} m = any_is (eqb s) m (eq-eqb s s refl)

-- ---- a ride in its place is a ride
module _ (n : Net) (walking : Bool) where
  no_ride : (c : LegType) → Allowed walking c → is_ride c ≡ false
  unfolding is_ride
  no_ride (Transit v) h = absurd h
  no_ride Transfer h = refl
  no_ride Walk h = refl

  begin_rides : {s x u y k : ℕ} {gs : List Leg} → Joined n walking s x u y k gs → begins_with_ride gs ≡ true → 1 ≤ k
  unfolding begins_with_ride
  begin_rides done e = false_is e
  begin_rides (by_ride g d a b c) e = omega arith
  begin_rides (by_path g w a b c) e = false_is (sym (no_ride g.kind w.allowed) ∙ e)

  end_rides : {s x u y k : ℕ} {gs : List Leg} → Joined n walking s x u y k gs → ends_with_ride gs ≡ true → 1 ≤ k
  unfolding ends_with_ride
  end_rides done e = false_is e
  end_rides (by_ride g d a b c) e = omega arith
  end_rides (by_path {gs = []} g w a b c) e = false_is (sym (no_ride g.kind w.allowed) ∙ e)
  end_rides (by_path {gs = h ∷ hs} g w a b c) e = end_rides c e

  pub ride_counted : (t : TimeConstraint) {s x u y k : ℕ} {gs : List Leg} → Joined n walking s x u y k gs → RideInPlace t gs → 1 ≤ k
  ride_counted (Departure t) j h = begin_rides j h
  ride_counted (Arrival t) j h = end_rides j h

  -- legs that are joined start at the first leg's stop
  joined_from : {s x u y k : ℕ} {gs : List Leg} → Joined n walking s x u y k gs → (g : Leg) (hs : List Leg) → gs ≡ g ∷ hs → g.from ≡ s
  joined_from done g hs e = cc
  joined_from (by_ride h d a b c) g hs e = let q : g ≡ h = cc in ap (λ (l : Leg). l.from) q ∙ a
  joined_from (by_path h w a b c) g hs e = let q : g ≡ h = cc in ap (λ (l : Leg). l.from) q ∙ a

-- ---- how a journey may begin and end
begin_sound : (t : TimeConstraint) (g : Leg) (gs : List Leg) (f : Led) → may_begin t g ≡ true → may_end t f ≡ true
    → f.rode ≡ ends_with_ride (g ∷ gs) → RideInPlace t (g ∷ gs)
unfolding may_begin may_end begins_with_ride
begin_sound (Departure t) g gs f b e r = b
begin_sound (Arrival t) g gs f b e r = sym r ∙ and_left f.rode (leb f.moment t.0) e

in_time_sound : (t : TimeConstraint) (f : Led) → may_end t f ≡ true → InTime t f.moment
unfolding may_end
in_time_sound (Departure t) f e = tt
in_time_sound (Arrival t) f e = leb-true _ _ (and_right f.rode (leb f.moment t.0) e)

begin_complete : (t : TimeConstraint) (g : Leg) (gs : List Leg) → RideInPlace t (g ∷ gs) → may_begin t g ≡ true
unfolding may_begin begins_with_ride
begin_complete (Departure t) g gs h = h
begin_complete (Arrival t) g gs h = refl

end_complete : (t : TimeConstraint) (g : Leg) (gs : List Leg) (f : Led) → RideInPlace t (g ∷ gs) → InTime t f.moment
    → f.rode ≡ ends_with_ride (g ∷ gs) → may_end t f ≡ true
unfolding may_end
end_complete (Departure t) g gs f h i r = refl
end_complete (Arrival t) g gs f h i r = both (r ∙ h) (le-leb _ _ i)

-- where the legs come in
come_sound : (n : Net) (q : Query) (o : Option Led) → comes_in n q o ≡ true
    → (f : Led) × (o ≡ Some f) × (may_end q.time f ≡ true) × Memᴰ f.stop (place_stops n q.to)
unfolding comes_in
come_sound n q None e = false_is e
come_sound n q (Some f) e =
    let a = may_end q.time f in
    let b = is_listed f.stop (place_stops n q.to) in
    (f, refl, and_left a b e, listed_mem f.stop (place_stops n q.to) (and_right a b e))

come_complete : (n : Net) (q : Query) (o : Option Led) (f : Led) → o ≡ Some f → may_end q.time f ≡ true
    → Memᴰ f.stop (place_stops n q.to) → comes_in n q o ≡ true
unfolding comes_in
come_complete n q o f e a m = rw e (both a (mem_listed m))

-- "Yes exactly when the legs form a journey": where it says yes they do
pub verdict_sound : (n : Net) (q : Query) (gs : List Leg) → verdict n q gs ≡ true → Right n q gs
unfolding verdict at_start
verdict_sound n q [] e = false_is e
verdict_sound n q (g ∷ gs) e =
    let v = may_walk q.walks in
    let a = may_begin q.time g in
    let b = is_listed g.from (place_stops n q.from) in
    let o = follow n v (g ∷ gs) (at_start q g) in
    let e₁ = and_right a (b && comes_in n q o) e in
    let c = come_sound n q o (and_right b (comes_in n q o) e₁) in
    let f = c.0 in
    let z = follow_sound n v (g ∷ gs) (at_start q g) f (omega arith) c.1 in
    let ride = begin_sound q.time g gs f (and_left a (b && comes_in n q o) e) c.2 (follow_ends n v g gs (at_start q g) f c.1) in
    let count : f.rides ≡ z.0 = z.1 ∙ zero-add z.0 in
    record {
      origin = g.from;
      destination = f.stop;
      end = f.moment;
      rides = z.0;
      leaves = listed_mem g.from (place_stops n q.from) (and_left b (comes_in n q o) e₁);
      comes = c.3;
      joined = z.3;
      in_time = in_time_sound q.time f c.2;
      ride = ride;
      some_ride = ride_counted n v q.time z.3 ride;
      most = omega (arith, z.2);
    }

-- and where they do it says yes, on tables whose indices are in range and for a place that they have
module _ (n : Net) (ok : Sound n) (q : Query) (known : (s : ℕ) → Memᴰ s (place_stops n q.from) → s < n.stops) where
  pub verdict_complete : (gs : List Leg) → Right n q gs → verdict n q gs ≡ true
  unfolding verdict at_start ends_with_ride
  verdict_complete [] h = absurd (empty h.joined h.some_ride)
    where
      empty : {s x u y k : ℕ} → Joined n (may_walk q.walks) s x u y k [] → 1 ≤ k → ⊥
      empty done l = omega arith
  verdict_complete (g ∷ gs) h =
      let v = may_walk q.walks in
      let at = joined_from n v h.joined g gs refl in
      let f = follow_complete n v ok h.joined (known h.origin h.leaves) (at_start q g) at refl (omega (arith, h.most)) in
      let ends = follow_ends n v g gs (at_start q g) f.0 f.1 in
      let in_time : InTime q.time f.0.moment = subst (InTime q.time) (sym f.3) h.in_time in
      let from : Memᴰ g.from (place_stops n q.from) = rw at h.leaves in
      let to : Memᴰ f.0.stop (place_stops n q.to) = rw f.2 h.comes in
      both (begin_complete q.time g gs h.ride)
      (both (mem_listed from)
      (come_complete n q (follow n v (g ∷ gs) (at_start q g)) f.0 f.1 (end_complete q.time g gs f.0 h.ride in_time ends) to))
