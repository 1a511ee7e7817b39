-- Two results of one call of the C face are equal: the number, and every word and byte of everything lent.
use Prim.Native.Nat.{ℕ}
use mathlib.Core.Path.{◌≡◌, sym, ap, ◌∙◌}
use mathlib.Core.List.{List}
use native.Mathlib.Omega.{arith}
use native.Mathlib.Decide.{dec_lt}
use lib.ListN.{length}
use Rattle.model.specs.declared.Query.{Query}
use Rattle.model.specs.Answer.{Answer, given}
use Rattle.raptor.specs.Lent.{Lent}
use Rattle.raptor.proofs.Unique.{solved_unique}
use Rattle.kiosk_words.specs.Words.{told_in}
use Rattle.kiosk_c.specs.Face.{Faced}

pub faced_unique : (w : List ℕ) (q : Query) (before : Lent) (a : List ℕ) {r r' : ℕ} {after after' : Lent} {a₁ a₂ : List ℕ}
    → Faced w q before a r after a₁ → Faced w q before a r' after' a₂ → (r ≡ r') × (after ≡ after') × (a₁ ≡ a₂)
faced_unique w q before a f g =
    elim (dec_lt (length a) 5) [
      | yes h ↦
          let x = f.short h in
          let z = g.short h in
          (x.0 ∙ sym z.0, x.1 ∙ sym z.1, x.2 ∙ sym z.2)
      | no h ↦
          let x = f.solved (omega arith) in
          let z = g.solved (omega arith) in
          let u = solved_unique w q before x.1 z.1 in (
            x.2 ∙ ap (λ (b : Answer). (given b).number) u.0 ∙ sym z.2,
            u.1,
            x.3 ∙ ap (λ (b : Answer). told_in (given b) a) u.0 ∙ sym z.3,
          )
    ]
