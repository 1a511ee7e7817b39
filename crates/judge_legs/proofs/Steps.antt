-- Legs followed one by one: the bytes that are left, from where the legs have led, lead where all of them do.
use Rattle.std.proofs.Common.{◌≡◌, ℕ, suc, ◌+◌, ◌-◌, ◌≤◌, ◌<◌, Bool, List, [], length, drop, refl, sym, ap, ◌∙◌, arith, length-drop}
use Rattle.std.proofs.Common.{Option, Result, None, Some, Ok, Err}
use Rattle.std.specs.Result.{result_ok}
use lib.ListN.{drop_of_length-le}
use lib.Seq.{drop-drop}
use Rattle.model.specs.declared.Leg.{Leg}
use Rattle.model.specs.Bytes.{Read, legs, bad, before, leg_size, read_from, read}
use Rattle.model.specs.Limits.{MOST_ROUNDS}
use Rattle.model.specs.Tables.{Net}
use Rattle.model.proofs.ReadBack.{read_end, read_stop, read_on}
use Rattle.journey.specs.declared.BadLeg.{BadLeg}
use Rattle.journey.specs.Reading.{leg_from}
use Rattle.journey.proofs.Written.{least_size}
use Rattle.journey.proofs.Told.{told_whole, told_bad, told_end, next_fits}
use Rattle.reader.specs.declared.Reader.{Reader}
use Rattle.reader.specs.Place.{place_after, moved_on}
use Rattle.handheld.specs.declared.Led.{Led}
use Rattle.handheld.specs.Verdict.{leg_on, follow}
use Rattle.handheld.proofs.Followed.{follow_to, follow_wrong, onward_few}
use Rattle.judge_legs.specs.Reading.{follow_on}

-- ---- the leg that is read, if it is one
ok_is : (x : Result Leg BadLeg) {g : Leg} → Some g ≡ result_ok x → x ≡ Ok g
ok_is (Ok g) e = cc
ok_is (Err v) e = cc

bad_is : (x : Result Leg BadLeg) → None ≡ result_ok x → (v : BadLeg) × (x ≡ Err v)
bad_is (Ok g) e = cc
bad_is (Err v) e = (v, refl)

-- ---- a leg in front
before_to : (n : Net) (walking : Bool) (g : Leg) (r : Read) (e f : Led) → leg_on n walking g e ≡ Some f
    → follow_on n walking (before g r) e ≡ follow_on n walking r f
unfolding follow_on before
before_to n walking g (legs gs) e f t = follow_to n walking g gs e f t
before_to n walking g (bad o) e f t = refl

before_wrong : (n : Net) (walking : Bool) (g : Leg) (r : Read) (e : Led) → leg_on n walking g e ≡ None
    → follow_on n walking (before g r) e ≡ None
unfolding follow_on before
before_wrong n walking g (legs gs) e t = follow_wrong n walking g gs e t
before_wrong n walking g (bad o) e t = refl

-- the legs before the reader's place have led to e. A leg takes a byte at least, so the fuel lasts
pub record Following (n : Net) (walking : Bool) (goal : Option Led) (legs : Reader) (e : Led) : Type 0 where
  fuel : ℕ
  enough : length legs.bytes.now ≤ legs.at + fuel
  pub inside : legs.at ≤ length legs.bytes.now
  pub few : e.rides ≤ MOST_ROUNDS
  rest : follow_on n walking (read_from fuel legs.at (drop legs.at legs.bytes.now)) e ≡ goal

pub following_start : (n : Net) (walking : Bool) {b : List ℕ} {s : Reader} (e : Led) → s.bytes.now ≡ b → s.at ≡ 0 → e.rides ≤ MOST_ROUNDS
    → Following n walking (follow_on n walking (read b) e) s e
unfolding read
following_start n walking {b} e p q h =
    record { fuel = length b; enough = rw p (omega arith); inside = omega arith; few = h; rest = rw (p, q) }

-- ---- the reader comes to r, and is then s
module _ {n : Net} {walking : Bool} {goal : Option Led} {a s : Reader} {e : Led} (h : Following n walking goal a e)
    {r : Option (Result Leg BadLeg)} (q : r ≡ leg_from a.bytes.now a.at) (m : s ≡ moved_on a) where
  -- it is behind a whole leg, and nearer to the end of the bytes
  pub behind_leg : {x : Result Leg BadLeg} {g : Leg} → r ≡ Some x → Some g ≡ result_ok x
      → (s.bytes.now ≡ a.bytes.now) × (s.at ≡ a.at + leg_size g.kind) × (s.at ≤ length a.bytes.now)
  unfolding place_after
  behind_leg {x} {g} w v =
      let y = ok_is x v in
      let z : place_after a.at (leg_from a.bytes.now a.at) ≡ a.at + leg_size g.kind = rw (← q, w, y) in
      let l = next_fits a.bytes.now a.at q w y refl in
      rw m (refl, z, rw z l)

  pub reads_less : {x : Result Leg BadLeg} {g : Leg} → r ≡ Some x → Some g ≡ result_ok x
      → length s.bytes.now - s.at < length a.bytes.now - a.at
  reads_less {g = g} w v =
      let b = behind_leg w v in
      rw b.0 (omega (arith, b.1, b.2, least_size g.kind))

  module _ {x : Result Leg BadLeg} (w : r ≡ Some x) {g : Leg} (v : Some g ≡ result_ok x) {o : Option Led} (p : o ≡ leg_on n walking g e) where
    -- one leg more is needed than there was fuel for without it
    on_from : (f : ℕ) → h.fuel ≡ f → 0 < f
        → follow_on n walking (before g (read_from (f - 1) (a.at + leg_size g.kind) (drop (leg_size g.kind) (drop a.at a.bytes.now)))) e ≡ goal
    on_from f d l =
        let t : f ≡ suc (f - 1) = omega arith in
        let on = read_on (f - 1) a.at (drop a.at a.bytes.now) (told_whole a.bytes.now a.at q w (ok_is x v)) in
        ap (λ (z : Read). follow_on n walking z e)
        (sym on ∙ ap (λ (z : ℕ). read_from z a.at (drop a.at a.bytes.now)) (sym t ∙ sym d)) ∙ h.rest

    pub following_on : {f : Led} → o ≡ Some f → Following n walking goal s f
    following_on {f} t =
        let b = behind_leg w v in
        let k = least_size g.kind in
        let more : 0 < h.fuel = omega (arith, h.enough, b.1, b.2) in
        let rest = read_from (h.fuel - 1) (a.at + leg_size g.kind) (drop (leg_size g.kind) (drop a.at a.bytes.now)) in
        let on : follow_on n walking rest f ≡ goal =
        sym (before_to n walking g rest e f (sym p ∙ t)) ∙ on_from h.fuel refl more in
        record {
          fuel = h.fuel - 1;
          enough = rw b.0 (omega (arith, h.enough, b.1));
          inside = rw b.0 b.2;
          few = onward_few n walking g e f (sym p ∙ t);
          rest = rw (b.0, b.1, ← drop-drop (leg_size g.kind) a.at a.bytes.now) on;
        }

    pub following_wrong : o ≡ None → None ≡ goal
    following_wrong t =
        let k = leg_size g.kind in
        let b = behind_leg w v in
        let l = least_size g.kind in
        let more : 0 < h.fuel = omega (arith, h.enough, b.1, b.2) in
        sym (before_wrong n walking g (read_from (h.fuel - 1) (a.at + k) (drop k (drop a.at a.bytes.now))) e (sym p ∙ t)) ∙ on_from h.fuel refl more

  pub following_bad : {x : Result Leg BadLeg} → r ≡ Some x → None ≡ result_ok x → None ≡ goal
  unfolding follow_on
  following_bad {x} w v =
      let t = told_bad a.bytes.now a.at q w (bad_is x v).1 in
      let l = length-drop a.at a.bytes.now in
      sym (ap (λ (z : Read). follow_on n walking z e)
      (read_stop h.fuel a.at (drop a.at a.bytes.now) (omega arith) (omega (arith, h.enough)) t.1)) ∙ h.rest

  pub following_end : r ≡ None → Some e ≡ goal
  unfolding follow_on follow
  following_end w =
      let d : [] ≡ drop a.at a.bytes.now = sym (drop_of_length-le a.bytes.now (told_end a.bytes.now a.at q w)) in
      let z = rw d at (read_end h.fuel a.at) in
      sym (ap (λ (z : Read). follow_on n walking z e) z) ∙ h.rest
