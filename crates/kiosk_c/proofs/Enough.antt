-- A buffer of 69,692 bytes is long enough for every journey: a call with one never gives 12.
use Prim.Native.Nat.{ℕ, ◌≤◌}
use mathlib.Core.Path.{sym, ◌∙◌}
use mathlib.Core.Logic.{◌≢◌}
use mathlib.Core.List.{List}
use native.Mathlib.Omega.{arith}
use native.Mathlib.Decide.{dec_lt}
use lib.Dec.{eqb}
use lib.ListN.{length}
use Rattle.base.proofs.Choice.{cond_elim}
use Rattle.model.specs.declared.Query.{Query}
use Rattle.repository.specs.Checked.{check_of}
use Rattle.check_tables.proofs.Whole.{check_most}
use Rattle.raptor.specs.Lent.{Lent}
use Rattle.raptor.proofs.Promises.{length_most, number_12, too_long_length}
use Rattle.kiosk_c.specs.Face.{short_number, Faced}

-- an answer that is too short for its words is told by 6 or less
short_few : (fault : ℕ) → fault ≤ 5 → short_number fault ≤ 6
unfolding short_number
short_few fault h = cond_elim (λ x. x ≤ 6) (eqb fault 0) _ _ (λ e. omega arith) (λ e. omega arith)

pub never_too_long : (w : List ℕ) (q : Query) (before : Lent) (a : List ℕ) {r : ℕ} {after : Lent} {a' : List ℕ}
    → Faced w q before a r after a' → 69_692 ≤ length before.journey → r ≢ 12
never_too_long w q before a f l e =
    elim (dec_lt (length a) 5) [
      | yes h ↦ omega (arith, short_few (check_of w) (check_most w), (f.short h).0)
      | no h ↦
          let x = f.solved (omega arith) in
          let b = too_long_length w q before x.1 (number_12 w q before x.1 (sym x.2 ∙ e)) in
          omega (arith, length_most w q before x.1, b.1)
    ]
