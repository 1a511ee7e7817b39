-- The contract of `solve`, case by case: refused by the tables, by a slice, by the query, or searched.
use Prim.Native.Nat.{ℕ, zero, suc, ◌<◌}
use mathlib.Core.Path.{◌≡◌, refl, sym, ap, ◌∙◌}
use mathlib.Core.Bool.{Bool, true, false}
use mathlib.Core.List.{List}
use native.Mathlib.Omega.{arith}
use lib.ListN.{length}
use Rattle.std.specs.Prelude.{Err}
use Rattle.model.specs.declared.Error.TheVariants.{Refused}
use Rattle.model.specs.declared.Refusal.{Refusal}
use Rattle.model.specs.declared.Refusal.TheVariants.{Room}
use Rattle.model.specs.declared.Query.{Query}
use Rattle.model.specs.Refusal.{refusal_number}
use Rattle.model.specs.Answer.{Answer, refusal, lowest, searched, legs_of, reply, unless, refused_by, answer}
use Rattle.model.proofs.Refusals.{number_range, refusal_of-number}
use Rattle.model.specs.Left.{written, journey_left}
use Rattle.repository.specs.Accepted.{Accepted}
use Rattle.repository.specs.NetOf.{net_of}
use Rattle.repository.specs.Checked.{check_of}
use Rattle.check_tables.proofs.Whole.{accepted_is}
use Rattle.raptor.specs.Lent.{Lent}
use Rattle.raptor.specs.Solved.{room_for, sized, Solved}
use Rattle.raptor.specs.Searching.{Ran}

module _ (w : List ℕ) (q : Query) (before : Lent) where
  number : ℕ
  number = lowest (check_of w) (sized (net_of w) before) (net_of w) q

  -- a refusal leaves everything as it was
  untouched : (x : Refusal) → refusal_number x ≡ lowest (check_of w) (sized (net_of w) before) (net_of w) q → Solved w q before (Err (Refused x)) before
  unfolding answer unless journey_left written
  untouched x e = record {
    answers = answers;
    journey = ap (λ (a : Answer). written a (legs_of (net_of w) q) before.journey) answers;
    workspace = record { untouched = λ z. (refl, refl, refl); ended = λ z. absurd (omega (arith, number_range x)) };
  }
    where
      told : Answer
      told = reply (length before.journey) (searched (net_of w) q).times.target (legs_of (net_of w) q)

      named : (k : ℕ) → 0 < k → unless refused_by told k ≡ refused_by k
      named zero h = absurd (omega arith)
      named (suc k) h = refl

      answers : Err (Refused x) ≡ answer (check_of w) (sized (net_of w) before) (net_of w) q (length before.journey)
      answers =
          ap (λ (y : Refusal). Err (Refused y)) (sym (refusal_of-number x))
          ∙ sym (named (refusal_number x) (number_range x).0)
          ∙ ap (unless refused_by told) e

  -- 1 to 5
  pub by_tables : {x : Refusal} → refusal_number x ≡ check_of w → Solved w q before (Err (Refused x)) before
  unfolding lowest
  by_tables {x} e = untouched x (rw (← e) (by (refusal_number x) (number_range x).0))
    where
      by : (k : ℕ) → 0 < k → k ≡ lowest k (sized (net_of w) before) (net_of w) q
      by zero h = absurd (omega arith)
      by (suc k) h = refl

  module _ {stops routes : ℕ} (h : Accepted w) (e-stops : stops ≡ (net_of w).stops) (e-routes : routes ≡ (net_of w).routes) where
    abbrev fits : Bool
    fits = room_for stops routes (length before.words) (length before.marks) (length before.places)

    sound : check_of w ≡ 0
    sound = (accepted_is w).1 h

    room : sized (net_of w) before ≡ fits
    unfolding sized
    room = rw (← e-stops, ← e-routes)

    -- 6
    pub by_room : fits ≡ false → Solved w q before (Err (Refused Room)) before
    by_room f = untouched Room (unfold lowest in rw (sound, room, f))

    -- 7, 8, 9
    pub by_query : {x : Refusal} → fits ≡ true → refusal_number x ≡ refusal (net_of w) q → Solved w q before (Err (Refused x)) before
    by_query {x} f e = untouched x (unfold lowest in rw (sound, room, f) e)

    -- 0, 10, 12
    pub by_search : {r : Answer} {after : Lent} → fits ≡ true → 0 ≡ refusal (net_of w) q
        → Ran (net_of w) q before.journey r after → Solved w q before r after
    unfolding lowest answer unless journey_left
    by_search {r} f e x = record {
      answers = answers;
      journey = x.journey ∙ ap (λ (a : Answer). written a (legs_of (net_of w) q) before.journey) answers;
      workspace = record { untouched = λ u. absurd (omega (arith, none)); ended = λ u. x.ended };
    }
      where
        none : lowest (check_of w) (sized (net_of w) before) (net_of w) q ≡ 0
        none = rw (sound, room, f) (sym e)

        answers : r ≡ answer (check_of w) (sized (net_of w) before) (net_of w) q (length before.journey)
        answers =
            x.answers
            ∙ ap (unless refused_by (reply (length before.journey) (searched (net_of w) q).times.target (legs_of (net_of w) q))) (sym none)
