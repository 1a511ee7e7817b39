-- "0 journey found": where the C face gives 0, the search found a journey, and the answer's five words are its own. So what is proved of
-- `Ok` is proved of a caller's 0.
use Prim.Native.Nat.{ℕ, zero, suc}
use mathlib.Core.Path.{◌≡◌, sym, ap, ◌∙◌, subst}
use mathlib.Core.List.{List, ◌∷◌}
use native.Mathlib.Omega.{arith}
use native.Mathlib.Decide.{dec_lt}
use lib.ListN.{length, drop}
use borrow.Author.Tests.{ne_eqb}
use Rattle.std.specs.Prelude.{Ok}
use Rattle.model.specs.declared.Found.{Found}
use Rattle.model.specs.declared.Query.{Query}
use Rattle.model.specs.Answer.{Answer, given}
use Rattle.repository.specs.Checked.{check_of}
use Rattle.raptor.specs.Lent.{Lent}
use Rattle.raptor.specs.Solved.{Solved}
use Rattle.raptor.proofs.Promises.{number_0}
use Rattle.kiosk_words.specs.Words.{told_in}
use Rattle.kiosk_c.specs.Face.{short_number, Faced}

-- an answer that is too short for its words is never told by 0
short_some : (fault : ℕ) → short_number fault ≡ 0 → ⊥
unfolding short_number
short_some zero e = omega arith
short_some (suc k) e = let f : suc k ≡ 0 = rw (ne_eqb (suc k) 0 (λ g. omega arith)) at e in omega arith

module _ (w : List ℕ) (q : Query) (before : Lent) (a : List ℕ) where
  -- the answer that is known to be a journey, where the contract names it
  solved_so : {x : Answer} {after : Lent} {f : Found} → x ≡ Ok f → Solved w q before x after
      → Solved w q before (Ok f) after
  solved_so {after = after} e h = subst (λ (b : Answer). Solved w q before b after) e h

  told_so : {x : Answer} {a' : List ℕ} {f : Found} → x ≡ Ok f → a' ≡ told_in (given x) a
      → a' ≡ 0 ∷ f.time.0 ∷ f.stop ∷ f.round ∷ f.length ∷ drop 5 a
  unfolding given told_in
  told_so e h = h ∙ ap (λ (b : Answer). told_in (given b) a) e

  pub faced_found : {r : ℕ} {after : Lent} {a' : List ℕ} → Faced w q before a r after a' → r ≡ 0
      → (f : Found) × Solved w q before (Ok f) after × (a' ≡ 0 ∷ f.time.0 ∷ f.stop ∷ f.round ∷ f.length ∷ drop 5 a)
  faced_found f e =
      elim (dec_lt (length a) 5) [
        | yes h ↦ absurd (short_some (check_of w) (sym (f.short h).0 ∙ e))
        | no h ↦
            let x = f.solved (omega arith) in
            let g = given x.0 in
            let is = number_0 w q before x.1 (sym x.2 ∙ e) in
            (record { time = record { 0 = g.time }; stop = g.stop; round = g.round; length = g.length }, solved_so is x.1, told_so is x.3)
      ]
