-- What a call answers and leaves.
use Prim.Native.Nat.{ℕ, ◌≤◌, ◌<◌}
use mathlib.Core.Path.{◌≡◌, refl, sym, subst}
use mathlib.Core.List.{List}
use native.Mathlib.Omega.{arith}
use lib.ListN.{length}
use borrow.Author.Tests.{eq-eqb}
use Rattle.model.specs.declared.Query.{Query}
use Rattle.model.specs.Answer.{Answer, given}
use Rattle.repository.specs.Accepted.{Accepted}
use Rattle.repository.specs.Checked.{check_of}
use Rattle.check_tables.proofs.Whole.{accepted_is}
use Rattle.raptor.specs.Lent.{Lent}
use Rattle.raptor.specs.Solved.{Solved}
use Rattle.raptor.proofs.Promises.{length_most}
use Rattle.kiosk_words.specs.Words.{told_in}
use Rattle.kiosk_c.specs.Face.{short_number, Faced}

-- ---- an answer that is too short

module _ (w : List ℕ) {c : ℕ} (e : c ≡ check_of w) where
  pub short_none : c ≡ 0 → 6 ≡ short_number (check_of w)
  unfolding short_number
  short_none z = rw (← e, eq-eqb c 0 z)

module _ (w : List ℕ) (q : Query) (before : Lent) (a : List ℕ) where
  pub too_short : {r : ℕ} → length a < 5 → r ≡ short_number (check_of w) → Faced w q before a r before a
  too_short h e = record { short = λ g. (e, refl, refl); solved = λ g. absurd (omega arith) }

  pub too_short_checked : Accepted w → length a < 5 → Faced w q before a 6 before a
  too_short_checked c h = too_short h (short_none w (sym ((accepted_is w).1 c)) refl)

  -- ---- an answer that holds five words
  pub faced : {u : Query} {x : Answer} {r : ℕ} {after : Lent} {a' : List ℕ} → 5 ≤ length a → u ≡ q → Solved w u before x after
      → r ≡ (given x).number → a' ≡ told_in (given x) a → Faced w q before a r after a'
  faced {x = x} {after = after} h e s f g = record {
    short = λ i. absurd (omega arith);
    solved = λ i. (x, subst (λ (v : Query). Solved w v before x after) e s, f, g);
  }

pub length_fits : {w : List ℕ} {q : Query} {before : Lent} {x : Answer} {after : Lent} → Solved w q before x after
    → (given x).length < 4_294_967_296
length_fits {w} {q} {before} s = omega (arith, length_most w q before s)
