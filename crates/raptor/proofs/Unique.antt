-- Two results that meet the contract of `solve`, or of `run` below it, are equal: the answer, and every word and byte of everything lent.
-- "two results meeting the statement are proved equal".
use Prim.Native.Nat.{ℕ, zero, suc}
use mathlib.Core.Path.{◌≡◌, refl, sym, ap, ◌∙◌}
use mathlib.Core.List.{List, ◌++◌}
use native.Mathlib.Omega.{arith}
use lib.ListN.{take, drop, take-append-drop}
use Rattle.model.specs.declared.Query.{Query}
use Rattle.model.specs.Tables.{Net}
use Rattle.model.specs.Answer.{Answer, lowest, legs_of}
use Rattle.model.specs.Left.{Workspace, written}
use Rattle.repository.specs.NetOf.{net_of}
use Rattle.repository.specs.Checked.{check_of}
use Rattle.allocator.proofs.Same.{same_words}
use Rattle.raptor.specs.Lent.{Lent}
use Rattle.raptor.specs.Solved.{sized, holds, Ended, WorkspaceLeft, Solved}
use Rattle.raptor.specs.Searching.{Ran}

-- slices of the same contents are the same
same_lent : {l l' : Lent} → (l.words ≡ l'.words) × (l.marks ≡ l'.marks) × (l.places ≡ l'.places) → l.journey ≡ l'.journey → l ≡ l'
same_lent e f = λ i. record { words = e.0 i; marks = e.1 i; places = e.2 i; journey = f i }

module _ (n : Net) (q : Query) {l l' : Lent} where
  -- slices in which the search ended alike are the same slices
  pub ended_same : Ended n q l → Ended n q l' → (l.words ≡ l'.words) × (l.marks ≡ l'.marks) × (l.places ≡ l'.places)
  unfolding holds
  ended_same a b =
      let e : holds n.stops n.routes l ≡ holds n.stops n.routes l' = a.ends ∙ sym b.ends in
      let words = same_words n.stops n.routes l.words l.marks l'.words l'.marks a.fits b.fits a.tidy b.tidy
      (ap (λ (x : Workspace). x.work) e) in (
        words.0,
        words.1,
        sym (take-append-drop n.stops l.places)
            ∙ ap (λ (x : List ℕ). x ++ drop n.stops l.places) (ap (λ (x : Workspace). x.origins) e)
            ∙ ap (λ (x : List ℕ). take n.stops l'.places ++ x) (ap (λ (x : Workspace). x.goals) e)
            ∙ take-append-drop n.stops l'.places,
      )

  left_same : {before : Lent} (k : ℕ) → WorkspaceLeft n q k before l → WorkspaceLeft n q k before l'
      → (l.words ≡ l'.words) × (l.marks ≡ l'.marks) × (l.places ≡ l'.places)
  left_same zero a b = ended_same (a.ended refl) (b.ended refl)
  left_same (suc k) a b =
      let x = a.untouched (omega arith) in
      let x' = b.untouched (omega arith) in
      (x.0 ∙ sym x'.0, x.1 ∙ sym x'.1, x.2 ∙ sym x'.2)

pub solved_unique : (w : List ℕ) (q : Query) (before : Lent) {r r' : Answer} {after after' : Lent} → Solved w q before r after
    → Solved w q before r' after' → (r ≡ r') × (after ≡ after')
solved_unique w q before a b =
    let k = lowest (check_of w) (sized (net_of w) before) (net_of w) q in
    (a.answers ∙ sym b.answers, same_lent (left_same (net_of w) q k a.workspace b.workspace) (a.journey ∙ sym b.journey))

pub ran_unique : (n : Net) (q : Query) (buffer : List ℕ) {r r' : Answer} {after after' : Lent} → Ran n q buffer r after → Ran n q buffer r' after'
    → (r ≡ r') × (after ≡ after')
ran_unique n q buffer {r} {r'} a b =
    let e : r ≡ r' = a.answers ∙ sym b.answers in (
      e,
      same_lent (ended_same n q a.ended b.ended) (a.journey ∙ ap (λ (x : Answer). written x (legs_of n q) buffer) e ∙ sym b.journey),
    )
