-- A writer's answer, by the first test that decides; and what the buffer holds then.
-- Assumes nothing.
use Prim.Native.Nat.{ℕ, ◌≤◌, ◌<◌}
use mathlib.Core.Path.{◌≡◌, refl, ap, ◌∙◌}
use mathlib.Core.Bool.{Bool, true, false}
use mathlib.Core.List.{List}
use native.Mathlib.Omega.{arith}
use borrow.Author.Tests.{le-leb, lt-leb}
use Rattle.std.specs.Prelude.{Result, Ok, Err, IsErr, IsErrAnd}
use Rattle.base.specs.Put.{with_bytes}
use Rattle.gtfs_write.specs.declared.Unwritten.{Unwritten}
use Rattle.gtfs_write.specs.declared.Unwritten.TheVariants.{Shape, Listing, Moments, Transfers, Full}
use Rattle.gtfs_write.specs.Refusing.{unwritten_number, by_number}
use Rattle.gtfs_write.specs.Written.{answered, held_after}

-- ---- a row at fault
pub refusal_some : (u : Unwritten) → 0 < unwritten_number u
refusal_some Shape = omega arith
refusal_some Listing = omega arith
refusal_some Moments = omega arith
refusal_some Transfers = omega arith
refusal_some Full = omega arith

-- the error that `?` hands on is the one that it met
pub handed_on : {A E : Type 0} (r : Result A E) {u : E} → IsErr r × IsErrAnd r (λ e. e ≡ u) → r ≡ Err u
handed_on (Ok x) h = absurd h.1
handed_on (Err e) h = ap (λ v. Err v) h.1

-- ---- the answer
module _ {rows : Bool} (fault size room : ℕ) where
  pub answer_no_rows : false ≡ rows → Err 1 ≡ answered rows fault size room
  unfolding answered
  answer_no_rows e = rw (← e)

  module _ (e : true ≡ rows) where
    by_refusal : (u : Unwritten) → Err (unwritten_number u) ≡ answered rows (unwritten_number u) size room
    unfolding answered
    by_refusal Shape = rw (← e)
    by_refusal Listing = rw (← e)
    by_refusal Moments = rw (← e)
    by_refusal Transfers = rw (← e)
    by_refusal Full = rw (← e)

    pub answer_fault : (u : Unwritten) → unwritten_number u ≡ fault → (r : Result ℕ Unwritten) → IsErr r × IsErrAnd r (λ v. v ≡ u)
        → by_number r ≡ answered rows fault size room
    answer_fault u f r h = rw (handed_on r h) (by_refusal u ∙ ap (λ (j : ℕ). answered rows j size room) f)

    module _ (z : 0 ≡ fault) {n : ℕ} (g : n ≡ size) where
      pub answer_short : room < n → Err 15 ≡ answered rows fault size room
      unfolding answered
      answer_short h = rw (← e, ← z, ← g, lt-leb n room h)

      pub answer_written : n ≤ room → Ok n ≡ answered rows fault size room
      unfolding answered
      answer_written h = rw (← e, ← z, ← g, le-leb n room h)

-- ---- what the buffer holds
module _ (b t : List ℕ) where
  pub held_refused : {E : Type 0} (r : Result ℕ E) → IsErr r → b ≡ held_after r b t
  unfolding held_after
  held_refused (Ok x) h = cc
  held_refused (Err e) h = refl

  pub held_as_before : {E : Type 0} (u : E) → b ≡ held_after (Err u) b t
  unfolding held_after
  held_as_before u = refl

  pub held_text : (E : Type 0) (n : ℕ) {x : List ℕ} → x ≡ with_bytes b 0 t → x ≡ held_after {E = E} (Ok n) b t
  unfolding held_after
  held_text E n h = h
