-- Request 2, sentence by sentence, over the contract of `judge`: it answers `judged (check_of w) (net_of w) q b` for the words w, the query q and the
-- bytes b. And over that of `solve`, whose journeys get a yes.
-- Assumes nothing.
use Prim.Native.Nat.{ℕ, zero, suc, ◌≤◌, ◌<◌}
use mathlib.Core.Path.{◌≡◌, refl, sym, ap, ◌∙◌, subst}
use mathlib.Core.Bool.{Bool, true, false, cond, ◌&&◌, ◌||◌}
use mathlib.Core.List.{List, [], ◌∷◌}
use mathlib.Core.Logic.{◌⊎◌, inl, inr}
use native.Mathlib.Omega.{arith}
use lib.Dec.{leb}
use lib.ListN.{take}
use Rattle.base.proofs.Choice.{split}
use Rattle.std.specs.Prelude.{Option, None, Some, Ok, Err}
use Rattle.model.specs.declared.Refusal.{Refusal}
use Rattle.model.specs.Refusal.{refusal_number, refusal_of}
use Rattle.model.proofs.Refusals.{number-refusal_of}
use Rattle.model.specs.declared.Found.{Found}
use Rattle.model.specs.declared.Leg.{Leg}
use Rattle.model.specs.declared.Mode.{Mode}
use Rattle.model.specs.declared.Query.{Query}
use Rattle.model.specs.Tables.{Net}
use Rattle.model.specs.Bytes.{Read, legs, bad, read, BadAt}
use Rattle.model.specs.Limits.{LAST_MOMENT}
use Rattle.model.specs.Places.{exists, place_stops, barren}
use Rattle.model.specs.Answer.{Answer, may_walk, moment_of, refusal, lowest, unless, legs_of}
use Rattle.model.proofs.ReadBack.{bad_means, bad_is}
use Rattle.repository.specs.Accepted.{Accepted}
use Rattle.repository.specs.Checked.{check_of}
use Rattle.repository.specs.NetOf.{net_of}
use Rattle.repository.proofs.Sound.{accepted_sound, accepted_sound_places}
use Rattle.check_tables.proofs.Whole.{accepted_is, check_most}
use Rattle.raptor.specs.Lent.{Lent}
use Rattle.raptor.specs.Solved.{Solved}
use Rattle.raptor.proofs.Promises.{found_accepted, found_chosen, reads_back}
use Rattle.journey.specs.declared.BadLeg.{BadLeg}
use Rattle.handheld.specs.declared.NoVerdict.TheVariants.{Bad, Refused}
use Rattle.handheld.specs.Right.{Right, Ways}
use Rattle.handheld.specs.declared.Led.{Led}
use Rattle.handheld.specs.Verdict.{is_listed, follow, may_begin, at_start, comes_in, verdict}
use Rattle.handheld.specs.Judged.{Verdict, judged_as, verdict_refused, judged}
use Rattle.handheld.proofs.Decided.{verdict_sound, verdict_complete}
use Rattle.handheld.proofs.Written.{search_gets_yes, origins_in}

module _ (w : List ℕ) (q : Query) (b : List ℕ) where
  -- the number that refuses, 0 where none does
  abbrev number : ℕ
  number = lowest (check_of w) true (net_of w) q

  by_number : judged (check_of w) (net_of w) q b ≡ unless verdict_refused (judged_as (net_of w) q (read b)) number
  unfolding judged
  by_number = refl

  unrefused : number ≡ 0 → judged (check_of w) (net_of w) q b ≡ judged_as (net_of w) q (read b)
  unfolding unless
  unrefused e = by_number ∙ ap (unless verdict_refused (judged_as (net_of w) q (read b))) e

  as_legs : (gs : List Leg) → number ≡ 0 → read b ≡ legs gs → judged (check_of w) (net_of w) q b ≡ Ok (verdict (net_of w) q gs)
  unfolding judged_as
  as_legs gs e f = unrefused e ∙ ap (judged_as (net_of w) q) f

  -- nothing refuses: the tables are accepted, and the query passes
  passes : number ≡ 0 → Accepted w × (refusal (net_of w) q ≡ 0)
  unfolding lowest
  passes e = go (check_of w) refl e
    where
      go : (c : ℕ) → check_of w ≡ c → lowest c true (net_of w) q ≡ 0 → Accepted w × (refusal (net_of w) q ≡ 0)
      go zero a f = ((accepted_is w).0 a, f)
      go (suc c) a f = absurd (omega arith)

  pass : Accepted w → refusal (net_of w) q ≡ 0 → number ≡ 0
  unfolding lowest
  pass ok e = rw ((accepted_is w).1 ok) e

  -- what is told, by cases: refused, no legs, or legs
  told_by : {C : Type 0} (v : Verdict) → judged (check_of w) (net_of w) q b ≡ v
      → ((k : ℕ) → number ≡ suc k → v ≡ verdict_refused (suc k) → C)
      → ((o : ℕ) → number ≡ 0 → read b ≡ bad o → v ≡ Err (Bad (record { at = o })) → C)
      → ((gs : List Leg) → number ≡ 0 → read b ≡ legs gs → v ≡ Ok (verdict (net_of w) q gs) → C) → C
  unfolding unless judged_as
  told_by {C} v t refused bytes legs' = go number refl
    where
      by_read : number ≡ 0 → (r : Read) → read b ≡ r → C
      by_read e (legs gs) f = legs' gs e f (sym t ∙ as_legs gs e f)
      by_read e (bad o) f = bytes o e f (sym t ∙ unrefused e ∙ ap (judged_as (net_of w) q) f)

      go : (k : ℕ) → number ≡ k → C
      go zero e = by_read e (read b) refl
      go (suc k) e = refused k e (sym t ∙ by_number ∙ ap (unless verdict_refused (judged_as (net_of w) q (read b))) e)

  -- ==== "Yes exactly when the legs form a journey": accepted tables, a query that passes, bytes that are legs, and legs that are right
  pub yes_right : judged (check_of w) (net_of w) q b ≡ Ok true
      → Accepted w × (refusal (net_of w) q ≡ 0) × ((gs : List Leg) × (read b ≡ legs gs) × Right (net_of w) q gs)
  yes_right t =
      told_by (Ok true) t
      (λ k e f. cc)
      (λ o e g f. cc)
      (λ gs e g f.
      let p = passes e in
      split (verdict (net_of w) q gs)
      (λ v. (p.0, p.1, (gs, g, verdict_sound (net_of w) q gs v)))
      (λ v. cc))

  pub right_yes : Accepted w → refusal (net_of w) q ≡ 0 → (gs : List Leg) → read b ≡ legs gs → Right (net_of w) q gs
      → judged (check_of w) (net_of w) q b ≡ Ok true
  right_yes ok e gs f r =
      let v = verdict_complete (net_of w) (accepted_sound ok) q (origins_in (net_of w) (accepted_sound_places ok) q e) gs r in
      as_legs gs (pass ok e) f ∙ ap Ok v

  -- a no: legs, and they are not right. "No legs is a no."
  pub no_wrong : judged (check_of w) (net_of w) q b ≡ Ok false
      → Accepted w × (refusal (net_of w) q ≡ 0) × ((gs : List Leg) × (read b ≡ legs gs) × (Right (net_of w) q gs → ⊥))
  no_wrong t =
      told_by (Ok false) t
      (λ k e f. cc)
      (λ o e g f. cc)
      (λ gs e g f.
      let p = passes e in
      (p.0, p.1, (gs, g, λ r. let v = right_yes p.0 p.1 gs g r in cc)))

  pub wrong_no : Accepted w → refusal (net_of w) q ≡ 0 → (gs : List Leg) → read b ≡ legs gs → (Right (net_of w) q gs → ⊥)
      → judged (check_of w) (net_of w) q b ≡ Ok false
  wrong_no ok e gs f r =
      split (verdict (net_of w) q gs)
      (λ v. absurd (r (verdict_sound (net_of w) q gs v)))
      (λ v. as_legs gs (pass ok e) f ∙ ap Ok v)

  -- ==== "13", with "the offset of the bad leg's first byte": exactly where nothing lower applies
  pub thirteen_bad : {o : ℕ} → judged (check_of w) (net_of w) q b ≡ Err (Bad (record { at = o })) → Accepted w × (refusal (net_of w) q ≡ 0) × BadAt b o
  thirteen_bad {o} t =
      told_by (Err (Bad (record { at = o }))) t
      (λ k e f. cc)
      (λ p e g f.
      let r : ◌≡◌ {A = BadLeg} (record { at = p }) (record { at = o }) = cc in
      let s : p ≡ o = ap (λ (v : BadLeg). v.at) r in
      ((passes e).0, (passes e).1, subst (BadAt b) s (bad_means b p g)))
      (λ gs e g f. cc)

  pub bad_thirteen : {o : ℕ} → Accepted w → refusal (net_of w) q ≡ 0 → BadAt b o → judged (check_of w) (net_of w) q b ≡ Err (Bad (record { at = o }))
  unfolding judged_as
  bad_thirteen {o} ok e h = unrefused (pass ok e) ∙ ap (judged_as (net_of w) q) (bad_is b o h)

  -- ==== "Refusals: tables as 1 to 5, then 7, 8, 9": whatever the bytes are
  -- 1 to 5, or 7 to 9: "6 a workspace slice of wrong length" is none of them
  in_range : (number ≤ 5) ⊎ ((7 ≤ number) × (number ≤ 9))
  unfolding lowest refusal
  in_range = by_fault (check_of w) (check_most w)
    where
      by_query : (a c d : Bool) → let k = cond {A = ℕ} a (cond c (cond d 9 0) 8) 7 in (k ≤ 5) ⊎ ((7 ≤ k) × (k ≤ 9))
      by_query true true true = inr (omega arith, omega arith)
      by_query true true false = inl (omega arith)
      by_query true false d = inr (omega arith, omega arith)
      by_query false c d = inr (omega arith, omega arith)

      by_fault : (c : ℕ) → c ≤ 5 → let k = lowest c true (net_of w) q in (k ≤ 5) ⊎ ((7 ≤ k) × (k ≤ 9))
      by_fault zero l =
          by_query (exists (net_of w) q.from && exists (net_of w) q.to)
          (leb 1 (moment_of q.time) && leb (moment_of q.time) LAST_MOMENT) (barren (net_of w) q.from || barren (net_of w) q.to)
      by_fault (suc c) l = inl l

  most : number ≤ 9
  most = go number in_range
    where
      go : (k : ℕ) → (k ≤ 5) ⊎ ((7 ≤ k) × (k ≤ 9)) → k ≤ 9
      go k (inl l) = omega arith
      go k (inr l) = l.1

  pub refused_is : {x : Refusal} → judged (check_of w) (net_of w) q b ≡ Err (Refused x)
      → (refusal_number x ≡ lowest (check_of w) true (net_of w) q) × (0 < refusal_number x)
  refused_is {x} t =
      told_by (Err (Refused x)) t
      (λ k e f.
      let s : x ≡ refusal_of (suc k) = cc in
      let l : suc k ≤ 9 = rw e at most in
      let n : refusal_number x ≡ suc k = ap refusal_number s ∙ number-refusal_of (suc k) (omega arith) l in
      (n ∙ sym e, omega arith))
      (λ o e g f. cc)
      (λ gs e g f. cc)

  pub is_refused : {k : ℕ} → lowest (check_of w) true (net_of w) q ≡ suc k
      → (judged (check_of w) (net_of w) q b ≡ Err (Refused (refusal_of (suc k)))) × (refusal_number (refusal_of (suc k)) ≡ suc k)
  unfolding unless
  is_refused {k} e =
      let l : suc k ≤ 9 = rw e at most in
      (by_number ∙ ap (unless verdict_refused (judged_as (net_of w) q (read b))) e, number-refusal_of (suc k) (omega arith) l)

  pub refused_range : {x : Refusal} → judged (check_of w) (net_of w) q b ≡ Err (Refused x)
      → (refusal_number x ≤ 5) ⊎ ((7 ≤ refusal_number x) × (refusal_number x ≤ 9))
  refused_range {x} t = subst (λ (k : ℕ). (k ≤ 5) ⊎ ((7 ≤ k) × (k ≤ 9))) (sym (refused_is t).0) in_range

  -- the tables' own number before everything
  pub tables_first : {k : ℕ} → check_of w ≡ suc k
      → (judged (check_of w) (net_of w) q b ≡ Err (Refused (refusal_of (suc k)))) × (refusal_number (refusal_of (suc k)) ≡ suc k)
  unfolding lowest
  tables_first e = is_refused (ap (λ (c : ℕ). lowest c true (net_of w) q) e)

-- ==== the mode of the search is not asked for: a journey is judged alike whichever found it
module _ (n : Net) (q : Query) (mode : Mode) where
  abbrev moded : Query
  moded = record { from = q.from; to = q.to; time = q.time; walks = q.walks; mode = mode }

  comes_alike : (o : Option Led) → comes_in n moded o ≡ comes_in n q o
  unfolding comes_in
  comes_alike None = refl
  comes_alike (Some e) = refl

  verdict_alike : (gs : List Leg) → verdict n moded gs ≡ verdict n q gs
  unfolding verdict at_start
  verdict_alike [] = refl
  verdict_alike (g ∷ gs) =
      ap (λ (x : Bool). may_begin q.time g && (is_listed g.from (place_stops n q.from) && x))
      (comes_alike (follow n (may_walk q.walks) (g ∷ gs) (at_start q g)))

  judged_alike : (r : Read) → judged_as n moded r ≡ judged_as n q r
  unfolding judged_as
  judged_alike (legs gs) = ap Ok (verdict_alike gs)
  judged_alike (bad o) = refl

  pub any_mode : (fault : ℕ) (b : List ℕ)
      → judged fault n (record { from = q.from; to = q.to; time = q.time; walks = q.walks; mode = mode }) b ≡ judged fault n q b
  unfolding judged lowest refusal
  any_mode fault b = ap (λ (v : Verdict). unless verdict_refused v (lowest fault true n moded)) (judged_alike (read b)) ∙ alike fault
    where
      alike : (c : ℕ) → unless verdict_refused (judged_as n q (read b)) (lowest c true n moded) ≡ unless verdict_refused (judged_as n q (read b)) (lowest c true n q)
      alike zero = refl
      alike (suc c) = refl

-- ==== "Everything our search writes gets a yes (arrival: with footpaths listed both ways)."
pub found_gets_yes : (w : List ℕ) (q : Query) (before : Lent) {r : Answer} {after : Lent} → Solved w q before r after
    → {f : Found} → r ≡ Ok f → Ways (net_of w) (may_walk q.walks) q.time
    → judged (check_of w) (net_of w) q (take f.length after.journey) ≡ Ok true
found_gets_yes w q before {after = after} h {f = f} e ways =
    let p = found_accepted w q before h e in
    let ok = (accepted_is w).0 p.0 in
    let v = search_gets_yes (net_of w) (accepted_sound ok) (accepted_sound_places ok) q p.1 ways (found_chosen w q before h e) in
    as_legs w q (take f.length after.journey) (legs_of (net_of w) q) (pass w q (take f.length after.journey) ok p.1) (reads_back w q before h e)
    ∙ ap Ok v
