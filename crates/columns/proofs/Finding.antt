-- A column found: where it stands among the fields so far.
-- Assumes nothing.
use Prim.Native.Nat.{ℕ, suc, ◌+◌, ◌≤◌, ◌<◌}
use mathlib.Core.Path.{◌≡◌, refl, sym, ap, ◌∙◌}
use mathlib.Core.Bool.{Bool, true, false, cond}
use Rattle.std.specs.Prelude.{None, Some}
use mathlib.Core.List.{List, [], ◌∷◌, ◌++◌}
use native.Mathlib.Omega.{arith}
use lib.ListN.{length, length-append}
use Rattle.base.proofs.Choice.{split}
use Rattle.csv_text.specs.Part.{part}
use Rattle.csv_text.specs.Texts.{same_text}
use Rattle.csv_text.specs.Fields.{field, fields}
use Rattle.csv_text.specs.Read.{scan_of, Within}
use Rattle.csv_text.specs.declared.TextField.{TextField}
use Rattle.csv_text.proofs.Parts.{part_whole}
use Rattle.columns.specs.declared.Column.{Column}
use Rattle.columns.specs.declared.Column.TheVariants.{At, Absent, Twice}
use Rattle.columns.specs.Picks.{is_named, column_from, column_of, column_in}
use Rattle.columns.specs.Keeping.{met_at}
use Rattle.columns.proofs.Passing.{Passed, passed_start, passed_wrong, passed_last, passed_on, next_behind}

-- ---- a field that has the name, or not
module _ (k : ℕ) {found : Column} where
  pub met_at_lem : {i : ℕ} → found ≡ At i → Twice ≡ met_at found k
  unfolding met_at
  met_at_lem e = rw e

  pub met_absent : found ≡ Absent → At k ≡ met_at found k
  unfolding met_at
  met_absent e = rw e

  pub met_twice : found ≡ Twice → Twice ≡ met_at found k
  unfolding met_at
  met_twice e = rw e

module _ (t name : List ℕ) {c : Bool} (q : c ≡ same_text t (part 0 (length name) name)) where
  same_name : c ≡ same_text t name
  same_name = q ∙ ap (same_text t) (part_whole name)

  pub seen_named : (found : Column) {r : Column} (k : ℕ) → c ≡ true → r ≡ met_at found k → r ≡ cond (same_text t name) (met_at found k) found
  seen_named found k e m = m ∙ rw (sym same_name ∙ e)

  pub seen_other : (found : Column) (k : ℕ) → c ≡ false → found ≡ cond (same_text t name) (met_at found k) found
  seen_other found k e = rw (sym same_name ∙ e)

-- ---- one field more behind others
named_more : (name : List ℕ) (ts : List (List ℕ)) (t : List ℕ)
    → is_named name (ts ++ (t ∷ [])) ≡ cond (same_text t name) true (is_named name ts)
unfolding is_named
named_more name [] t = refl
named_more name (x ∷ ts) t =
    split (same_text x name)
    (λ c. rw c (always (same_text t name)))
    (λ c. rw c (named_more name ts t))
  where
    always : (c : Bool) → true ≡ cond c true true
    always true = refl
    always false = refl

twice_more : (i k : ℕ) (n c : Bool) → cond (cond c true n) Twice (At i) ≡ cond c (met_at (cond n Twice (At i)) k) (cond n Twice (At i))
unfolding met_at
twice_more i k true true = refl
twice_more i k true false = refl
twice_more i k false true = refl
twice_more i k false false = refl

column_more : (i : ℕ) (name : List ℕ) (ts : List (List ℕ)) (t : List ℕ)
    → column_from i name (ts ++ (t ∷ [])) ≡ cond (same_text t name) (met_at (column_from i name ts) (i + length ts)) (column_from i name ts)
unfolding column_from met_at is_named
column_more i name [] t = let z : i + 0 ≡ i = omega arith in rw z
column_more i name (x ∷ ts) t =
    let z : i + suc (length ts) ≡ suc i + length ts = omega arith in
    split (same_text x name)
    (λ c. rw (c, named_more name ts t) (twice_more i (i + suc (length ts)) (is_named name ts) (same_text t name)))
    (λ c. rw (c, z) (column_more (suc i) name ts t))

-- ---- the loop: the next field begins at i and has the number k
pub record Found (b : List ℕ) (a e : ℕ) (name : List ℕ) (i k : ℕ) (was : Column) : Type 0 where
  texts : List (List ℕ)
  pub passed : Passed b a e i texts
  pub few : k ≤ i
  number : k ≡ length texts
  stands : was ≡ column_of name texts

pub found_start : {b : List ℕ} {a e : ℕ} {name : List ℕ} → a ≤ e → e ≤ length b → Found b a e name a 0 Absent
unfolding column_of column_from
found_start h k = record { texts = []; passed = passed_start h k; few = omega arith; number = refl; stands = refl }

module _ {b : List ℕ} {a e : ℕ} {name : List ℕ} {i k : ℕ} {was : Column} (g : Found b a e name i k was) where
  pub column_wrong : scan_of b e None ≡ field (part i e b) → Absent ≡ column_in name (fields (part a e b))
  unfolding column_in
  column_wrong s = ap (column_in name) (sym (passed_wrong g.passed s))

  module _ (x : TextField) (s : scan_of b e (Some x) ≡ field (part i e b))
      {now : Column} (q : now ≡ cond (same_text (part x.from x.to b) name) (met_at was k) was) where
    stands_more : now ≡ column_of name (g.texts ++ (part x.from x.to b ∷ []))
    unfolding column_of
    stands_more =
        let z : k ≡ 0 + length g.texts = omega (arith, g.number) in
        q ∙ rw (g.stands, z) (sym (column_more 0 name g.texts (part x.from x.to b)))

    pub column_last : e ≤ x.next → now ≡ column_in name (fields (part a e b))
    unfolding column_in
    column_last h = stands_more ∙ ap (column_in name) (sym (passed_last g.passed x s h))

    pub found_on : Within b i e (Some x) → x.next < e → Found b a e name (x.next + 1) (k + 1) now
    found_on u h =
        record {
          texts = g.texts ++ (part x.from x.to b ∷ []);
          passed = passed_on g.passed x s h;
          few = omega (arith, g.few, next_behind b i e x u);
          number = omega (arith, g.number, length-append g.texts (part x.from x.to b ∷ []));
          stands = stands_more;
        }
