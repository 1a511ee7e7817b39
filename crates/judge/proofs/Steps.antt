-- A verdict, test by test.
use Rattle.std.proofs.Common.{◌≡◌, ℕ, zero, suc, ◌+◌, ◌-◌, ◌<◌, Bool, true, false, ◌&&◌, List, [], length, drop, refl, sym, ap, ◌∙◌, arith, length-drop}
use Rattle.std.proofs.Common.{Option, Result, None, Some, Ok, Err}
use mathlib.Core.Path.{subst}
use lib.ListN.{drop_of_length-le}
use Rattle.model.specs.declared.Leg.{Leg}
use Rattle.model.specs.declared.Query.{Query}
use Rattle.model.specs.declared.Refusal.{Refusal}
use Rattle.model.specs.Refusal.{refusal_number, number_given, refusal_of}
use Rattle.model.specs.Tables.{Net}
use Rattle.model.specs.Bytes.{Read, legs, bad, before, read_from, read, leg_size}
use Rattle.model.specs.Places.{place_stops}
use Rattle.model.specs.Answer.{may_walk, refusal, lowest, unless}
use Rattle.model.proofs.Asking.{passed}
use Rattle.model.proofs.ReadBack.{first_there, read_end, read_stop, read_on}
use Rattle.model.proofs.Refusals.{number_range, refusal_of-number}
use Rattle.repository.specs.Accepted.{Accepted}
use Rattle.repository.specs.Checked.{check_of}
use Rattle.repository.specs.NetOf.{net_of}
use Rattle.check_tables.proofs.Whole.{accepted_is}
use Rattle.journey.specs.declared.BadLeg.{BadLeg}
use Rattle.journey.specs.Reading.{leg_from, reading_of}
use Rattle.journey.proofs.Written.{least_size}
use Rattle.journey.proofs.Told.{told_whole, told_bad, told_end}
use Rattle.handheld.specs.declared.NoVerdict.TheVariants.{Bad, Refused}
use Rattle.handheld.specs.declared.Led.{Led}
use Rattle.handheld.specs.Right.{soonest}
use Rattle.handheld.specs.Verdict.{is_listed, may_begin, at_start, comes_in, verdict}
use Rattle.handheld.specs.Judged.{judged_as, verdict_refused, judged}
use Rattle.judge_legs.specs.Reading.{follow_on}
use Rattle.judge.specs.Places.{HasPlaces, verdict_on}

-- ---- the first leg
read_first : (b : List ℕ) {g : Leg} → leg_from b 0 ≡ Some (Ok g) → (r : Read) × (read b ≡ before g r)
unfolding read
read_first b {g} e =
    let first = told_whole b 0 refl e refl in
    let there = first_there (drop 0 b) first in
    let m = least_size g.kind in
    let s : length b ≡ suc (length b - 1) = omega arith in
    let rest = read_from (length b - 1) (0 + leg_size g.kind) (drop (leg_size g.kind) b) in
    (rest, ap (λ (z : ℕ). read_from z 0 b) s ∙ read_on (length b - 1) 0 b first)

and_false : (a b : Bool) → false ≡ (a && (b && false))
and_false true true = refl
and_false true false = refl
and_false false b = refl

verdict_first : (n : Net) (q : Query) (g : Leg) (r : Read)
    → (may_begin q.time g && (is_listed g.from (place_stops n q.from)
    && comes_in n q (follow_on n (may_walk q.walks) (before g r) (at_start q g)))) ≡ verdict_on n q (before g r)
unfolding verdict_on follow_on before verdict comes_in
verdict_first n q g (legs gs) = refl
verdict_first n q g (bad o) = sym (and_false (may_begin q.time g) (is_listed g.from (place_stops n q.from)))

module _ (n : Net) (q : Query) (b : List ℕ) {g : Leg} (first : leg_from b 0 ≡ Some (Ok g)) where
  by_first : (may_begin q.time g && (is_listed g.from (place_stops n q.from)
      && comes_in n q (follow_on n (may_walk q.walks) (read b) (at_start q g)))) ≡ verdict_on n q (read b)
  by_first =
      let r = read_first b first in
      subst (λ (z : Read). (may_begin q.time g && (is_listed g.from (place_stops n q.from)
      && comes_in n q (follow_on n (may_walk q.walks) z (at_start q g)))) ≡ verdict_on n q z) (sym r.1) (verdict_first n q g r.0)

  module _ {x : Bool} (h : x ≡ may_begin q.time g) where
    pub begins_wrong : x ≡ false → false ≡ verdict_on n q (read b)
    begins_wrong u = let e : may_begin q.time g ≡ false = sym h ∙ u in rw e at by_first

    module _ {y : Bool} (u : x ≡ true) (l : y ≡ is_listed g.from (place_stops n q.from)) where
      pub leaves_elsewhere : y ≡ false → false ≡ verdict_on n q (read b)
      leaves_elsewhere v =
          let e : may_begin q.time g ≡ true = sym h ∙ u in
          let f : is_listed g.from (place_stops n q.from) ≡ false = sym l ∙ v in
          rw (e, f) at by_first

      pub right_from : {m : ℕ} {walking : Bool} {o : Option Led} {z : Bool} → y ≡ true → m ≡ soonest q.time → walking ≡ may_walk q.walks
          → o ≡ follow_on n walking (read b) (record { stop = g.from; moment = m; rides = 0; rode = false })
          → z ≡ comes_in n q o → z ≡ verdict_on n q (read b)
      unfolding at_start
      right_from v s k d c =
          let e : may_begin q.time g ≡ true = sym h ∙ u in
          let f : is_listed g.from (place_stops n q.from) ≡ true = sym l ∙ v in
          let all : comes_in n q (follow_on n (may_walk q.walks) (read b) (at_start q g)) ≡ verdict_on n q (read b) = rw (e, f) at by_first in
          c ∙ ap (comes_in n q) (d ∙ rw (s, k)) ∙ all

-- ---- bytes without a first leg
module _ (n : Net) (q : Query) (b : List ℕ) {r : Option (Result Leg BadLeg)} (e : r ≡ leg_from b 0) where
  pub none_first : {x : Result Leg BadLeg} {v : BadLeg} → r ≡ Some x → x ≡ Err v → false ≡ verdict_on n q (read b)
  unfolding read verdict_on
  none_first h w =
      let t = told_bad b 0 e h w in
      let l = length-drop 0 b in
      rw (read_stop (length b) 0 b (omega arith) (omega arith) t.1)

  pub no_legs : r ≡ None → false ≡ verdict_on n q (read b)
  unfolding read verdict_on verdict
  no_legs w =
      let l = told_end b 0 e w in
      let d : b ≡ [] = drop_of_length-le b {i = 0} l in
      rw (d, read_end)

-- ---- what the depot is told
-- what is no Err is an Ok
pub not_err : {T E : Type 0} (r : Result T E) → ((x : E) → r ≡ Err x → ⊥) → (v : T) × (r ≡ Ok v)
not_err (Ok v) h = (v, refl)
not_err (Err x) h = absurd (h x refl)

-- a refusal by its number
refused : {r : Result (Unit {0}) Refusal} {x : Refusal} {k : ℕ} → number_given r ≡ k → r ≡ Err x → (0 < k) × (refusal_of k ≡ x)
refused {x = x} e f =
    let g : refusal_number x ≡ _ = rw f at e in
    (rw (← g) (number_range x).0, rw (← g) (refusal_of-number x))

module _ (w : List ℕ) (q : Query) (b : List ℕ) where
  -- a fault of the tables comes first
  pub by_tables : {r : Result (Unit {0}) Refusal} {x : Refusal} → number_given r ≡ check_of w → r ≡ Err x
      → Err (Refused x) ≡ judged (check_of w) (net_of w) q b
  unfolding judged lowest unless
  by_tables {x = x} e f = go (check_of w) (refused e f)
    where
      go : (k : ℕ) → (0 < k) × (refusal_of k ≡ x) → Err (Refused x) ≡ judged k (net_of w) q b
      go zero h = absurd (omega arith)
      go (suc k) h = ap (λ (z : Refusal). Err (Refused z)) (sym h.1)

  no_fault : Accepted w → check_of w ≡ 0
  no_fault ok = (accepted_is w).1 ok

  module _ (ok : Accepted w) {r : Result (Unit {0}) Refusal} (e : number_given r ≡ refusal (net_of w) q) where
    pub by_query : {x : Refusal} → r ≡ Err x → Err (Refused x) ≡ judged (check_of w) (net_of w) q b
    unfolding judged lowest unless
    by_query {x} f = rw (no_fault ok) (go (refusal (net_of w) q) (refused e f))
      where
        go : (k : ℕ) → (0 < k) × (refusal_of k ≡ x) → Err (Refused x) ≡ unless verdict_refused (judged_as (net_of w) q (read b)) k
        go zero h = absurd (omega arith)
        go (suc k) h = ap (λ (z : Refusal). Err (Refused z)) (sym h.1)

    module _ {u : Unit {0}} (f : r ≡ Ok u) where
      unrefused : refusal (net_of w) q ≡ 0
      unrefused = sym (rw f at e)

      pub posed : HasPlaces w q
      posed = let p = passed (net_of w) q unrefused in record { known = ok; from = p.from; to = p.to }

      as_read : judged (check_of w) (net_of w) q b ≡ judged_as (net_of w) q (read b)
      unfolding judged lowest unless
      as_read = rw (no_fault ok, unrefused)

      module _ {s : Result ℕ BadLeg} (d : s ≡ reading_of (read b)) where
        pub told_bad_leg : {v : BadLeg} → s ≡ Err v → Err (Bad v) ≡ judged (check_of w) (net_of w) q b
        unfolding judged_as reading_of
        told_bad_leg {v} h = go (read b) refl (sym d ∙ h) ∙ sym as_read
          where
            go : (r : Read) → read b ≡ r → reading_of r ≡ Err v → Err (Bad v) ≡ judged_as (net_of w) q (read b)
            go (legs gs) p m = cc
            go (bad x) p m = let y : v ≡ record { at = x } = cc in rw (p, y)

        pub told : {k : ℕ} → s ≡ Ok k → {x : Bool} → x ≡ verdict_on (net_of w) q (read b) → Ok x ≡ judged (check_of w) (net_of w) q b
        unfolding judged_as reading_of verdict_on
        told {k} h {x} v = go (read b) refl (sym d ∙ h) v ∙ sym as_read
          where
            go : (r : Read) → read b ≡ r → reading_of r ≡ Ok k → x ≡ verdict_on (net_of w) q (read b) → Ok x ≡ judged_as (net_of w) q (read b)
            go (legs gs) p m v = let y : x ≡ verdict (net_of w) q gs = rw p at v in rw (p, y)
            go (bad o) p m v = cc
