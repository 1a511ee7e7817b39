-- Two results that meet the contract of `ask` are equal: what is told, and every word and byte of everything lent.
-- "two results meeting the statement are proved equal".
use Prim.Native.Nat.{ℕ}
use mathlib.Core.Path.{◌≡◌, refl, sym, ap, ◌∙◌}
use mathlib.Core.Bool.{Bool, true, false}
use mathlib.Core.List.{List, ◌++◌}
use lib.ListN.{take, drop, take-append-drop}
use Rattle.std.proofs.Common.{Option, Some, Result, Ok, Err}
use Rattle.model.specs.declared.Query.{Query}
use Rattle.model.specs.declared.Refusal.{Refusal}
use Rattle.model.specs.Answer.{Answer}
use Rattle.raptor.specs.declared.Lengths.{Lengths}
use Rattle.raptor.specs.Rooms.{room_of}
use Rattle.raptor.specs.Lent.{Lent}
use Rattle.raptor.proofs.Unique.{solved_unique}
use Rattle.asking.specs.Tells.{enough, foremost, Tells}

whole : (k : ℕ) (u v : List ℕ) → take k u ≡ take k v → drop k u ≡ drop k v → u ≡ v
whole k u v a b =
    sym (take-append-drop k u)
    ∙ ap (λ (x : List ℕ). x ++ drop k u) a
    ∙ ap (λ (x : List ℕ). take k v ++ x) b
    ∙ take-append-drop k v

untouched_same : {before after after' : Lent} {r r' r₀ : Option Answer} → (r ≡ r₀) × (after ≡ before) → (r' ≡ r₀) × (after' ≡ before)
    → (r ≡ r') × (after ≡ after')
untouched_same a b = (a.0 ∙ sym b.0, a.1 ∙ sym b.1)

pub asked_unique : (t : List ℕ) (q : Query) (before : Lent) {r r' : Option Answer} {after after' : Lent} → Tells t q before r after
    → Tells t q before r' after' → (r ≡ r') × (after ≡ after')
asked_unique t q before {r} {r'} {after} {after'} d e = go (room_of t) refl
  where
    by : (n : Lengths) → room_of t ≡ Ok n → (s : Bool) → enough n before ≡ s → (r ≡ r') × (after ≡ after')
    by n f false h = untouched_same (d.large n f h) (e.large n f h)
    by n f true h =
        let x = d.solved n f h in
        let z = e.solved n f h in
        let s = solved_unique t q (foremost n before) x.2.solved z.2.solved in
        let ew = whole n.words after.words after'.words (ap (λ (l : Lent). l.words) s.1) (x.2.words ∙ sym z.2.words) in
        let ey = whole n.marks after.marks after'.marks (ap (λ (l : Lent). l.marks) s.1) (x.2.marks ∙ sym z.2.marks) in
        let ep = whole n.places after.places after'.places (ap (λ (l : Lent). l.places) s.1) (x.2.places ∙ sym z.2.places) in
        let ej : after.journey ≡ after'.journey = ap (λ (l : Lent). l.journey) s.1 in
        (x.1 ∙ ap (λ (y : Answer). Some y) s.0 ∙ sym z.1, λ i. record { words = ew i; marks = ey i; places = ep i; journey = ej i })

    go : (n : Result Lengths Refusal) → room_of t ≡ n → (r ≡ r') × (after ≡ after')
    go (Ok n) f = by n f (enough n before) refl
    go (Err k) f = untouched_same (d.refused k f) (e.refused k f)
