-- Where a column stands in a header: nowhere, at one place alone, or at two.
-- Assumes nothing.
use Prim.Native.Nat.{ℕ, zero, suc, ◌+◌, ◌<◌}
use mathlib.Core.Path.{◌≡◌, refl, sym, ap}
use mathlib.Core.Bool.{true, false}
use Rattle.std.specs.Prelude.{None, Some}
use mathlib.Core.List.{List, [], ◌∷◌}
use native.Mathlib.Omega.{arith}
use lib.ListN.{length, get_or}
use Rattle.base.proofs.Choice.{split}
use Rattle.csv_text.specs.Texts.{same_text}
use Rattle.columns.specs.declared.Column.{Column}
use Rattle.columns.specs.declared.Column.TheVariants.{At, Absent, Twice}
use Rattle.columns.specs.Picks.{is_named, column_from, column_of}
use Rattle.csv_text.proofs.Texts.{same_text_lem}
use Rattle.feed.specs.Columns.{only_place, any_place, min_transfer_time}
use Rattle.feed.specs.Held.{Unnamed}
use Rattle.feed.specs.Heads.{OnlyAt, AtTwo, SpanAt, span_there, span_missing, NotOnce, lacking, doubled}
use Rattle.feed.proofs.IfThere.{none_some, some_is}
use Rattle.feed.proofs.Naming.{same_not, is_named_new, is_named_at}

-- ---- one text more in front
module _ (t name : List ℕ) (ts : List (List ℕ)) where
  module _ (v : same_text t name ≡ false) where
    nowhere_more : Unnamed ts name → Unnamed (t ∷ ts) name
    nowhere_more u = record { nowhere = go }
      where
        go : (i : ℕ) → i < suc (length ts) → get_or (t ∷ ts) i [] ≡ name → ⊥
        go zero h e = same_not t name v e
        go (suc i) h e = u.nowhere i (omega arith) e

    only_more : {p : ℕ} → OnlyAt ts name p → OnlyAt (t ∷ ts) name (suc p)
    only_more {p} o = record { inside = omega (arith, o.inside); here = o.here; only = go }
      where
        go : (j : ℕ) → j < suc (length ts) → get_or (t ∷ ts) j [] ≡ name → j ≡ suc p
        go zero h e = absurd (same_not t name v e)
        go (suc j) h e = ap suc (o.only j (omega arith) e)

  two_more : AtTwo ts name → AtTwo (t ∷ ts) name
  two_more d = record {
    one = suc d.one;
    other = suc d.other;
    apart = omega (arith, d.apart);
    inside = omega (arith, d.inside);
    here = d.here;
    there = d.there;
  }

  module _ (v : same_text t name ≡ true) where
    only_here : Unnamed ts name → OnlyAt (t ∷ ts) name 0
    only_here u = record { inside = omega arith; here = same_text_lem t name v; only = go }
      where
        go : (j : ℕ) → j < suc (length ts) → get_or (t ∷ ts) j [] ≡ name → j ≡ 0
        go zero h e = refl
        go (suc j) h e = absurd (u.nowhere j (omega arith) e)

    two_here : is_named name ts ≡ true → AtTwo (t ∷ ts) name
    two_here w =
        let z = is_named_at ts name w in
        record { one = 0; other = suc z.0; apart = omega arith; inside = omega (arith, z.1); here = same_text_lem t name v; there = z.2 }

-- ---- the three ways
pub data Stands (ts : List (List ℕ)) (name : List ℕ) (i : ℕ) : Column → Type 0 where
  nowhere : Unnamed ts name → Stands ts name i Absent
  once : (p : ℕ) → OnlyAt ts name p → Stands ts name i (At (i + p))
  twice : AtTwo ts name → Stands ts name i Twice

stands_more : (t name : List ℕ) (ts : List (List ℕ)) (i : ℕ) {k : Column} → same_text t name ≡ false → Stands ts name (suc i) k
    → Stands (t ∷ ts) name i k
stands_more t name ts i v (nowhere u) = nowhere (nowhere_more t name ts v u)
stands_more t name ts i v (once p o) = let z : suc i + p ≡ i + suc p = omega arith in rw z (once (suc p) (only_more t name ts v o))
stands_more t name ts i v (twice d) = twice (two_more t name ts d)

stands_from : (i : ℕ) (name : List ℕ) (ts : List (List ℕ)) → Stands ts name i (column_from i name ts)
unfolding column_from
stands_from i name [] = nowhere (record { nowhere = λ j h e. omega arith })
stands_from i name (t ∷ ts) =
    let rest = stands_from (suc i) name ts in
    split (same_text t name)
    (λ v.
    split (is_named name ts)
    (λ w. rw (v, w) (twice (two_here t name ts v w)))
    (λ w.
    let z : i + 0 ≡ i = omega arith in
    let y : Stands (t ∷ ts) name i (At (i + 0)) = once 0 (only_here t name ts v (is_named_new ts name w)) in
    rw (v, w) (rw z at y)))
    (λ v. rw v (stands_more t name ts i v rest))

pub column_stands : (name : List ℕ) (ts : List (List ℕ)) → Stands ts name 0 (column_of name ts)
unfolding column_of
column_stands name ts = stands_from 0 name ts

-- ---- a column that must stand once
module _ {ts : List (List ℕ)} {name : List ℕ} where
  one_not_two : {C : Type 0} {i : ℕ} → OnlyAt ts name i → AtTwo ts name → C
  one_not_two {C} {i} o d =
      let a = d.apart in
      let b = d.inside in
      let x : d.one ≡ i = o.only d.one (omega arith) d.here in
      let y : d.other ≡ i = o.only d.other (omega arith) d.there in
      absurd (omega arith)

  is_only : {k : Column} {i : ℕ} → Stands ts name 0 k → only_place k ≡ Some i → OnlyAt ts name i
  unfolding only_place
  is_only (nowhere u) e = none_some e
  is_only {i} (once p o) e = let z : p ≡ i = omega (arith, some_is e) in rw (← z) o
  is_only (twice d) e = none_some e

  is_not : {k : Column} → Stands ts name 0 k → only_place k ≡ None → NotOnce ts name
  unfolding only_place
  is_not (nowhere u) e = lacking u
  is_not (once p o) e = none_some (sym e)
  is_not (twice d) e = doubled d

  only_is : {k : Column} {i : ℕ} → Stands ts name 0 k → OnlyAt ts name i → only_place k ≡ Some i
  unfolding only_place
  only_is {i} (nowhere u) o = absurd (u.nowhere i o.inside o.here)
  only_is {i} (once p q) o = let z : p ≡ i = o.only p q.inside q.here in let y : 0 + p ≡ i = omega arith in ap Some y
  only_is (twice d) o = one_not_two o d

  not_is : {k : Column} → Stands ts name 0 k → NotOnce ts name → only_place k ≡ None
  unfolding only_place
  not_is (nowhere u) n = refl
  not_is (once p o) (lacking u) = absurd (u.nowhere p o.inside o.here)
  not_is (once p o) (doubled d) = one_not_two o d
  not_is (twice d) n = refl

-- ---- and one that may be missing
module _ {ts : List (List ℕ)} where
  any_at : {k : Column} {i : ℕ} → Stands ts min_transfer_time 0 k → any_place (length ts) k ≡ Some i → SpanAt ts i
  unfolding any_place
  any_at (nowhere u) e = span_missing u (sym (some_is e))
  any_at {i} (once p o) e = let z : p ≡ i = omega (arith, some_is e) in span_there (rw (← z) o)
  any_at (twice d) e = none_some e

  any_two : {k : Column} → Stands ts min_transfer_time 0 k → any_place (length ts) k ≡ None → AtTwo ts min_transfer_time
  unfolding any_place
  any_two (nowhere u) e = none_some (sym e)
  any_two (once p o) e = none_some (sym e)
  any_two (twice d) e = d

  at_any : {k : Column} {i : ℕ} → Stands ts min_transfer_time 0 k → SpanAt ts i → any_place (length ts) k ≡ Some i
  unfolding any_place
  at_any (nowhere u) (span_there o) = absurd (u.nowhere _ o.inside o.here)
  at_any (nowhere u) (span_missing w e) = ap Some (sym e)
  at_any {i} (once p q) (span_there o) = let z : p ≡ i = o.only p q.inside q.here in let y : 0 + p ≡ i = omega arith in ap Some y
  at_any (once p q) (span_missing w e) = absurd (w.nowhere p q.inside q.here)
  at_any (twice d) (span_there o) = one_not_two o d
  at_any (twice d) (span_missing w e) = absurd (w.nowhere d.one (let a = d.apart in let b = d.inside in omega arith) d.here)

  two_any : {k : Column} → Stands ts min_transfer_time 0 k → AtTwo ts min_transfer_time → any_place (length ts) k ≡ None
  unfolding any_place
  two_any (nowhere u) d = absurd (u.nowhere d.one (let a = d.apart in let b = d.inside in omega arith) d.here)
  two_any (once p o) d = one_not_two o d
  two_any (twice d) e = refl

-- ---- of the header's texts
module _ (ts : List (List ℕ)) (name : List ℕ) where
  pub place_only : {i : ℕ} → only_place (column_of name ts) ≡ Some i → OnlyAt ts name i
  place_only e = is_only (column_stands name ts) e

  pub place_not : only_place (column_of name ts) ≡ None → NotOnce ts name
  place_not e = is_not (column_stands name ts) e

  pub only_place_lem : {i : ℕ} → OnlyAt ts name i → only_place (column_of name ts) ≡ Some i
  only_place_lem o = only_is (column_stands name ts) o

  pub not_place : NotOnce ts name → only_place (column_of name ts) ≡ None
  not_place n = not_is (column_stands name ts) n

module _ (ts : List (List ℕ)) where
  pub place_span : {i : ℕ} → any_place (length ts) (column_of min_transfer_time ts) ≡ Some i → SpanAt ts i
  place_span e = any_at (column_stands min_transfer_time ts) e

  pub place_two : any_place (length ts) (column_of min_transfer_time ts) ≡ None → AtTwo ts min_transfer_time
  place_two e = any_two (column_stands min_transfer_time ts) e

  pub span_place : {i : ℕ} → SpanAt ts i → any_place (length ts) (column_of min_transfer_time ts) ≡ Some i
  span_place s = at_any (column_stands min_transfer_time ts) s

  pub two_place : AtTwo ts min_transfer_time → any_place (length ts) (column_of min_transfer_time ts) ≡ None
  two_place d = two_any (column_stands min_transfer_time ts) d
