-- What `ask` tells, by what the tables ask for and the lengths of the slices. Assumes nothing.
use Prim.Native.Nat.{ℕ, ◌≤◌, ◌<◌}
use mathlib.Core.Path.{◌≡◌, refl, ◌∙◌}
use mathlib.Core.Bool.{true, false}
use mathlib.Core.List.{List, ◌++◌}
use native.Mathlib.Omega.{arith}
use lib.ListN.{length, take, drop}
use lib.Seq.{take_at, drop_at, length-take-le}
use borrow.Author.Tests.{le-leb, lt-leb}
use Rattle.std.proofs.Common.{Result, Some, None, Ok}
use Rattle.model.specs.declared.Query.{Query}
use Rattle.model.specs.declared.Refusal.{Refusal}
use Rattle.model.specs.Answer.{Answer}
use Rattle.raptor.specs.declared.Lengths.{Lengths}
use Rattle.raptor.specs.Rooms.{room_of}
use Rattle.raptor.specs.Lent.{Lent, lent}
use Rattle.raptor.specs.Solved.{Solved}
use Rattle.asking.specs.Tells.{enough, foremost, SolvedIn, Tells}

module _ (t : List ℕ) (q : Query) (before : Lent) {x : Result Lengths Refusal} (e : x ≡ room_of t) where
  module _ {n : Lengths} (f : x ≡ Ok n) where
    tells_large : enough n before ≡ false → Tells t q before None before
    tells_large s = record {
      refused = λ k g. let z : ◌≡◌ {A = ℕ} 0 1 = cc in absurd (omega arith);
      large = λ n' g h. (refl, refl);
      solved = λ n' g h. let en : n ≡ n' = cc in let z : ◌≡◌ {A = ℕ} 0 1 = cc in absurd (omega arith);
    }

    pub few_words : length before.words < n.words → Tells t q before None before
    unfolding enough
    few_words h = tells_large (rw (lt-leb n.words (length before.words) h))

    module _ (hw : n.words ≤ length before.words) where
      pub few_marks : length before.marks < n.marks → Tells t q before None before
      unfolding enough
      few_marks h = tells_large (rw (le-leb n.words (length before.words) hw, lt-leb n.marks (length before.marks) h))

      module _ (hy : n.marks ≤ length before.marks) where
        pub few_places : length before.places < n.places → Tells t q before None before
        unfolding enough
        few_places h =
            tells_large
            (rw (le-leb n.words (length before.words) hw, le-leb n.marks (length before.marks) hy, lt-leb n.places (length before.places) h))

        module _ (hp : n.places ≤ length before.places) where
          room_enough : enough n before ≡ true
          unfolding enough
          room_enough = rw (le-leb n.words (length before.words) hw, le-leb n.marks (length before.marks) hy, le-leb n.places (length before.places) hp)

          -- what was solved in the foremost parts, with what stood behind them
          abbrev joined : Lent → Lent
          joined l = record {
            words = l.words ++ drop n.words before.words;
            marks = l.marks ++ drop n.marks before.marks;
            places = l.places ++ drop n.places before.places;
            journey = l.journey;
          }

          solved_in : {r : Answer} {l : Lent} → Solved t q (foremost n before) r l → length l.words ≡ n.words → length l.marks ≡ n.marks
              → length l.places ≡ n.places → SolvedIn n t q before r (joined l)
          solved_in {l = l} s lw ly lp = record {
            solved =
                rw (
                  take_at l.words (drop n.words before.words) n.words lw,
                  take_at l.marks (drop n.marks before.marks) n.marks ly,
                  take_at l.places (drop n.places before.places) n.places lp,
                ) s;
            words = drop_at l.words (drop n.words before.words) n.words lw;
            marks = drop_at l.marks (drop n.marks before.marks) n.marks ly;
            places = drop_at l.places (drop n.places before.places) n.places lp;
          }

          tells_answer : {r : Answer} {after : Lent} → SolvedIn n t q before r after → Tells t q before (Some r) after
          tells_answer {r} s = record {
            refused = λ k g. let z : ◌≡◌ {A = ℕ} 0 1 = cc in absurd (omega arith);
            large = λ n' g h.
                let en : n ≡ n' = cc in
                let i = room_enough in
                let z : ◌≡◌ {A = ℕ} 0 1 = cc in
                absurd (omega arith);
            solved = λ n' g h. let en : n ≡ n' = cc in (r, refl, rw (← en) s);
          }

          pub tells_solved : {r : Answer} {w₁ y₁ p₁ j₁ : List ℕ} → Solved t q (foremost n before) r (lent w₁ y₁ p₁ j₁)
              → length w₁ ≡ length (take n.words before.words) → length y₁ ≡ length (take n.marks before.marks)
              → length p₁ ≡ length (take n.places before.places) → Tells t q before (Some r) (joined (lent w₁ y₁ p₁ j₁))
          tells_solved s lw ly lp =
              tells_answer
              (solved_in s (lw ∙ length-take-le n.words before.words hw) (ly ∙ length-take-le n.marks before.marks hy)
              (lp ∙ length-take-le n.places before.places hp))
