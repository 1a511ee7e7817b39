-- Lines and fields one at a time.
-- Assumes nothing.
use Prim.Native.Nat.{ℕ, zero, suc, ◌+◌, ◌-◌, ◌≤◌, ◌<◌}
use mathlib.Core.Path.{◌≡◌, refl, sym, ap, ◌∙◌}
use mathlib.Core.Bool.{Bool, true, false}
use Rattle.std.specs.Prelude.{None, Some}
use mathlib.Core.List.{List, [], ◌∷◌}
use native.Mathlib.Omega.{arith}
use lib.ListN.{length, drop, length-drop}
use lib.Dec.{eqb}
use Rattle.base.proofs.Choice.{split}
use Rattle.csv_text.specs.Part.{part}
use Rattle.csv_text.specs.Lines.{line_of, after_line, trimmed, lines_from, lines}
use Rattle.csv_text.specs.Fields.{Scan, taken, wrong, joined, plain, quoted, field, with_field, fields_from, fields}
use Rattle.csv_text.specs.declared.TextLine.{TextLine}
use Rattle.csv_text.specs.Read.{LineAt}
use Rattle.csv_text.proofs.Parts.{part_ends}

behind_less : (x : ℕ) (b : List ℕ) → length (after_line (x ∷ b)) ≤ length b
unfolding after_line
behind_less x [] = split (eqb x 10) (λ t. rw t (omega arith)) (λ t. rw t (omega arith))
behind_less x (y ∷ b) = split (eqb x 10) (λ t. rw t (omega arith)) (λ t. rw t (omega (arith, behind_less y b)))

enough : (f g : ℕ) (b : List ℕ) → length b ≤ f → length b ≤ g → lines_from f b ≡ lines_from g b
unfolding lines_from
enough zero zero b h k = refl
enough zero (suc g) [] h k = refl
enough zero (suc g) (x ∷ b) h k = absurd (omega arith)
enough (suc f) zero [] h k = refl
enough (suc f) zero (x ∷ b) h k = absurd (omega arith)
enough (suc f) (suc g) [] h k = refl
enough (suc f) (suc g) (x ∷ b) h k =
    ap (λ (ls : List (List ℕ)). trimmed (line_of (x ∷ b)) ∷ ls)
    (enough f g (after_line (x ∷ b)) (omega (arith, behind_less x b)) (omega (arith, behind_less x b)))

pub lines_none : lines [] ≡ []
unfolding lines lines_from
lines_none = refl

pub lines_step : (b : List ℕ) → 0 < length b → lines b ≡ trimmed (line_of b) ∷ lines (after_line b)
unfolding lines lines_from
lines_step [] h = absurd (omega arith)
lines_step (x ∷ b) h =
    ap (λ (ls : List (List ℕ)). trimmed (line_of (x ∷ b)) ∷ ls)
    (enough (length b) (length (after_line (x ∷ b))) (after_line (x ∷ b)) (behind_less x b) (omega arith))

-- the line that begins at a, ends at e and has its text up to t
pub line_at : (b : List ℕ) {a e t n : ℕ} → a < length b → part a e b ≡ line_of (drop a b) → (a ≤ e) × (e ≤ length b)
    → after_line (drop a b) ≡ drop (e + 1) b → part a t b ≡ trimmed (part a e b) → (a ≤ t) × (t ≤ e) → n ≡ e + 1
    → LineAt b a (record { end = t; next = n })
line_at b {a} {e} {t} {n} h l w r m v q = record {
  parted =
      lines_step (drop a b) (omega (arith, length-drop a b))
      ∙ (let u : trimmed (line_of (drop a b)) ≡ part a t b = ap trimmed (sym l) ∙ sym m in rw (u, r, q));
  line = (let u : n - 1 ≡ e = omega arith in rw u l);
  forward = v.0;
  inside = omega (arith, v.1, w.1);
  further = omega (arith, w.0);
  within = omega (arith, w.1);
}

-- there is one such line
head_is : {A : Type 0} {x y : A} {l m : List A} → x ∷ l ≡ y ∷ m → x ≡ y
head_is e = cc

pub line_once : {b : List ℕ} {a : ℕ} {r s : TextLine} → LineAt b a r → LineAt b a s → r ≡ s
line_once {b} {a} {r} {s} p q =
    let before = p.further in
    let behind = q.further in
    let within = p.within in
    let inside = q.within in
    let e = part_ends b a r.end s.end p.forward p.inside q.forward q.inside (head_is (sym p.parted ∙ q.parted)) in
    let m =
    part_ends b a (r.next - 1) (s.next - 1) (omega arith) (omega arith) (omega arith) (omega arith) (p.line ∙ sym q.line) in
    let n : r.next ≡ s.next = omega arith in
    rw (e, n)

-- ---- fields
-- what stands behind a field is no longer than all
behind : Scan → ℕ
behind (taken t r) = length r
behind wrong = 0

behind_joined : (x : ℕ) (c : Scan) → behind (joined x c) ≡ behind c
unfolding behind joined
behind_joined x (taken t r) = refl
behind_joined x wrong = refl

plain_less : (l : List ℕ) → behind (plain l) ≤ length l
unfolding behind plain
plain_less [] = omega arith
plain_less (x ∷ l) =
    split (eqb x 44)
    (λ c. rw c (omega arith))
    (λ c. split (eqb x 34) (λ q. rw (c, q) (omega arith)) (λ q. rw (c, q) (omega (arith, behind_joined x (plain l), plain_less l))))

quoted_less : (q : Bool) (l : List ℕ) → behind (quoted q l) ≤ length l
unfolding behind quoted
quoted_less false [] = omega arith
quoted_less false (x ∷ l) =
    split (eqb x 34)
    (λ c. rw c (omega (arith, quoted_less true l)))
    (λ c. rw c (omega (arith, behind_joined x (quoted false l), quoted_less false l)))
quoted_less true [] = omega arith
quoted_less true (x ∷ l) =
    split (eqb x 44)
    (λ c. rw c (omega arith))
    (λ c.
    split (eqb x 34)
    (λ q.
    rw (c, q)
    (omega (arith, behind_joined 34 (joined 34 (quoted false l)), behind_joined 34 (quoted false l), quoted_less false l)))
    (λ q. rw (c, q) (omega arith)))

field_less : (l : List ℕ) → behind (field l) ≤ length l
unfolding behind field
field_less [] = omega arith
field_less (x ∷ l) =
    split (eqb x 34) (λ c. rw c (omega (arith, quoted_less false l))) (λ c. rw c (plain_less (x ∷ l)))

rest_less : (l t r : List ℕ) → field l ≡ taken t r → length r ≤ length l
unfolding behind
rest_less l t r e = rw e at (field_less l)

from_wrong : (f : ℕ) (l : List ℕ) → field l ≡ wrong → fields_from (suc f) l ≡ None
unfolding fields_from
from_wrong f l e = rw (e, fields_from)

from_last : (f : ℕ) (l t : List ℕ) → field l ≡ taken t [] → fields_from (suc f) l ≡ Some (t ∷ [])
unfolding fields_from
from_last f l t e = rw (e, fields_from)

from_more : (f : ℕ) (l t : List ℕ) (c : ℕ) (s : List ℕ) → field l ≡ taken t (c ∷ s) → fields_from (suc f) l ≡ with_field t (fields_from f s)
unfolding fields_from
from_more f l t c s e = rw (e, fields_from)

pub fields_wrong : (l : List ℕ) → field l ≡ wrong → fields l ≡ None
unfolding fields
fields_wrong l e = from_wrong (length l) l e

pub fields_last : (l t : List ℕ) → field l ≡ taken t [] → fields l ≡ Some (t ∷ [])
unfolding fields
fields_last l t e = from_last (length l) l t e

-- more fuel than bytes changes nothing
fuel_enough : (f g : ℕ) (l : List ℕ) → length l < f → length l < g → fields_from f l ≡ fields_from g l
fuel_enough zero g l h k = absurd (omega arith)
fuel_enough (suc f) zero l h k = absurd (omega arith)
fuel_enough (suc f) (suc g) l h k = by (λ s m n. fuel_enough f g s m n) (field l) refl
  where
    by : ((s : List ℕ) → length s < f → length s < g → fields_from f s ≡ fields_from g s) → (c : Scan) → field l ≡ c
        → fields_from (suc f) l ≡ fields_from (suc g) l
    by less wrong e = from_wrong f l e ∙ sym (from_wrong g l e)
    by less (taken t []) e = from_last f l t e ∙ sym (from_last g l t e)
    by less (taken t (c ∷ s)) e =
        let m : length (c ∷ s) ≤ length l = rest_less l t (c ∷ s) e in
        from_more f l t c s e ∙ ap (with_field t) (less s (omega arith) (omega arith)) ∙ sym (from_more g l t c s e)

pub fields_more : (l t : List ℕ) (c : ℕ) (s : List ℕ) → field l ≡ taken t (c ∷ s) → fields l ≡ with_field t (fields s)
unfolding fields
fields_more l t c s e =
    let m : length (c ∷ s) ≤ length l = rest_less l t (c ∷ s) e in
    from_more (length l) l t c s e ∙ ap (with_field t) (fuel_enough (length l) (suc (length s)) s (omega arith) (omega arith))
