-- Texts are kept with their doubled quotes: what they stand for is equal exactly where they are.
-- Assumes nothing.
use Prim.Native.Nat.{ℕ, zero, suc}
use mathlib.Core.Path.{◌≡◌, refl, sym, ◌∙◌}
use mathlib.Core.Bool.{Bool, true, false}
use Rattle.std.specs.Prelude.{Option, None, Some}
use mathlib.Core.List.{List, [], ◌∷◌, nil≢cons}
use lib.Dec.{eqb}
use lib.ListN.{length, get_or}
use borrow.Author.Tests.{eqb-false, ne_eqb}
use Rattle.base.specs.Each.{Each, nil, cons}
use Rattle.base.proofs.Choice.{split}
use Rattle.csv_text.specs.Fields.{Scan, taken, wrong, joined, plain, quoted, field, with_field, fields_from, fields}
use Rattle.feed.specs.Undoubled.{undoubled, Paired, no_byte, one_byte, two_quotes}
use Rattle.feed.proofs.IfThere.{none_some, some_is}

undoubled_byte : (x : ℕ) (t : List ℕ) → (x ≡ 34 → ⊥) → undoubled (x ∷ t) ≡ x ∷ undoubled t
unfolding undoubled
undoubled_byte x [] n = refl
undoubled_byte x (y ∷ t) n = rw (ne_eqb x 34 n)

undoubled_pair : (t : List ℕ) → undoubled (34 ∷ 34 ∷ t) ≡ 34 ∷ undoubled t
unfolding undoubled
undoubled_pair t = refl

head_is : {x y : ℕ} {s t : List ℕ} → x ∷ s ≡ y ∷ t → x ≡ y
head_is e = cc

tail_is : {x y : ℕ} {s t : List ℕ} → x ∷ s ≡ y ∷ t → s ≡ t
tail_is e = cc

pub undoubled_same : {s t : List ℕ} → Paired s → Paired t → undoubled s ≡ undoubled t → s ≡ t
unfolding undoubled
undoubled_same no_byte no_byte e = refl
undoubled_same no_byte (one_byte {x} {t} n q) e = absurd (nil≢cons (e ∙ undoubled_byte x t n))
undoubled_same no_byte (two_quotes {t} q) e = absurd (nil≢cons (e ∙ undoubled_pair t))
undoubled_same (one_byte {x} {t} n p) no_byte e = absurd (nil≢cons (sym e ∙ undoubled_byte x t n))
undoubled_same (one_byte {x} {t} n p) (one_byte {x = y} {t = u} m q) e =
    let z = sym (undoubled_byte x t n) ∙ e ∙ undoubled_byte y u m in
    let h : x ≡ y = head_is z in
    let k : t ≡ u = undoubled_same p q (tail_is z) in
    rw (h, k)
undoubled_same (one_byte {x} {t} n p) (two_quotes {t = u} q) e = absurd (n (head_is (sym (undoubled_byte x t n) ∙ e ∙ undoubled_pair u)))
undoubled_same (two_quotes {t} p) no_byte e = absurd (nil≢cons (sym e ∙ undoubled_pair t))
undoubled_same (two_quotes {t} p) (one_byte {x = y} {t = u} m q) e =
    absurd (m (sym (head_is (sym (undoubled_pair t) ∙ e ∙ undoubled_byte y u m))))
undoubled_same (two_quotes {t} p) (two_quotes {t = u} q) e =
    let k : t ≡ u = undoubled_same p q (tail_is (sym (undoubled_pair t) ∙ e ∙ undoubled_pair u)) in
    rw k

-- ---- what a field gives is in pairs
abbrev Fair : Scan → Type 0
Fair (taken t r) = Paired t
Fair wrong = Unit {0}

joined_fair : (x : ℕ) (s : Scan) → (x ≡ 34 → ⊥) → Fair s → Fair (joined x s)
unfolding joined
joined_fair x (taken t r) n f = one_byte n f
joined_fair x wrong n f = f

pair_fair : (s : Scan) → Fair s → Fair (joined 34 (joined 34 s))
unfolding joined
pair_fair (taken t r) f = two_quotes f
pair_fair wrong f = f

plain_fair : (b : List ℕ) → Fair (plain b)
unfolding plain
plain_fair [] = no_byte
plain_fair (x ∷ b) =
    let f = plain_fair b in
    split (eqb x 44)
    (λ v. rw v no_byte)
    (λ v. split (eqb x 34) (λ w. rw (v, w) tt) (λ w. rw (v, w) (joined_fair x (plain b) (eqb-false x 34 w) f)))

quoted_fair : (q : Bool) (b : List ℕ) → Fair (quoted q b)
unfolding quoted
quoted_fair false [] = tt
quoted_fair false (x ∷ b) =
    let f = quoted_fair false b in
    let g = quoted_fair true b in
    split (eqb x 34) (λ v. rw v g) (λ v. rw v (joined_fair x (quoted false b) (eqb-false x 34 v) f))
quoted_fair true [] = no_byte
quoted_fair true (x ∷ b) =
    let f = quoted_fair false b in
    split (eqb x 44) (λ v. rw v no_byte) (λ v. split (eqb x 34) (λ w. rw (v, w) (pair_fair (quoted false b) f)) (λ w. rw (v, w) tt))

field_fair : (l : List ℕ) → Fair (field l)
unfolding field
field_fair [] = no_byte
field_fair (x ∷ b) = split (eqb x 34) (λ v. rw v (quoted_fair false b)) (λ v. rw v (plain_fair (x ∷ b)))

-- ---- every field of a line
abbrev AllFair : Option (List (List ℕ)) → Type 0
AllFair None = Unit {0}
AllFair (Some ts) = Each Paired ts

with_fair : (t : List ℕ) (o : Option (List (List ℕ))) → Paired t → AllFair o → AllFair (with_field t o)
unfolding with_field
with_fair t None p f = f
with_fair t (Some ts) p f = cons p f

next_fair : (fuel : ℕ) (s : Scan) → Fair s → ((b : List ℕ) → AllFair (fields_from fuel b))
    → AllFair (elim s [ wrong ↦ None | taken t r ↦ elim r [ [] ↦ Some (t ∷ []) | c ∷ b ↦ with_field t (fields_from fuel b) ] ])
next_fair fuel wrong f rest = tt
next_fair fuel (taken t []) f rest = cons f nil
next_fair fuel (taken t (c ∷ b)) f rest = with_fair t (fields_from fuel b) f (rest b)

from_fair : (fuel : ℕ) (l : List ℕ) → AllFair (fields_from fuel l)
unfolding fields_from
from_fair zero l = tt
from_fair (suc fuel) l = next_fair fuel (field l) (field_fair l) (λ b. from_fair fuel b)

fair_paired : (o : Option (List (List ℕ))) {ts : List (List ℕ)} → AllFair o → o ≡ Some ts → Each Paired ts
fair_paired None f e = none_some e
fair_paired (Some us) f e = rw (← (some_is e)) f

pub fields_paired : (l : List ℕ) {ts : List (List ℕ)} → fields l ≡ Some ts → Each Paired ts
unfolding fields
fields_paired l e = fair_paired (fields_from (suc (length l)) l) (from_fair (suc (length l)) l) e

-- behind the last there is the empty text
pub paired_at : {ts : List (List ℕ)} → Each Paired ts → (i : ℕ) → Paired (get_or ts i [])
paired_at nil i = no_byte
paired_at (cons p f) zero = p
paired_at (cons p f) (suc i) = paired_at f i
