-- The fields of a line that is written are the texts of which it was made.
-- Assumes nothing.
use Prim.Native.Nat.{ℕ, zero, suc, ◌≤◌, ◌<◌}
use mathlib.Core.Path.{◌≡◌, refl, sym, ap, ◌∙◌}
use Rattle.std.specs.Prelude.{Some}
use mathlib.Core.List.{List, [], ◌∷◌, ◌++◌, append-nil, append_assoc}
use native.Mathlib.Omega.{arith}
use lib.ListN.{length, length-append}
use borrow.Author.Tests.{ne_eqb}
use Rattle.base.specs.Each.{Each, nil, cons}
use Rattle.base.proofs.Each.{each_append, each_map}
use Rattle.csv_text.specs.Lines.{lines}
use Rattle.csv_text.specs.Fields.{taken, joined, plain, field, with_field, fields_from, fields}
use Rattle.feed.specs.Writing.{line_with}
use Rattle.feed.proofs.Lined.{Inner, OfLine, lines_lined}

-- texts, each behind a comma
unfoldable pub behind_commas : List (List ℕ) → List ℕ
behind_commas [] = []
behind_commas (t ∷ ts) = 44 ∷ (t ++ behind_commas ts)

line_with_lem : (t : List ℕ) (ts : List (List ℕ)) (r : List ℕ) → line_with (t ∷ ts) ++ r ≡ (t ++ behind_commas ts) ++ (10 ∷ r)
unfolding line_with behind_commas
line_with_lem t [] r = append_assoc t (10 ∷ []) r ∙ ap (λ (l : List ℕ). l ++ (10 ∷ r)) (sym (append-nil t))
line_with_lem t (u ∷ us) r =
    append_assoc t (44 ∷ line_with (u ∷ us)) r
    ∙ ap (λ (l : List ℕ). t ++ (44 ∷ l)) (line_with_lem u us r)
    ∙ sym (append_assoc t (44 ∷ (u ++ behind_commas us)) (10 ∷ r))

-- ---- its bytes
of_line : {t : List ℕ} → Each Inner t → Each OfLine t
of_line h = each_map (λ x l. omega arith) h

behind_bytes : {ts : List (List ℕ)} → Each (Each Inner) ts → Each OfLine (behind_commas ts)
unfolding behind_commas
behind_bytes nil = nil
behind_bytes (cons h hs) = cons {x = 44} (omega arith) (each_append (of_line h) (behind_bytes hs))

-- a line is read before what follows
pub lines_with : {t : List ℕ} {ts : List (List ℕ)} (r : List ℕ) → Each Inner t → Each (Each Inner) ts
    → lines (line_with (t ∷ ts) ++ r) ≡ (t ++ behind_commas ts) ∷ lines r
lines_with {t} {ts} r h hs = ap lines (line_with_lem t ts r) ∙ lines_lined r (each_append (of_line h) (behind_bytes hs))

-- ---- its fields
plain_none : (ts : List (List ℕ)) → plain (behind_commas ts) ≡ taken [] (behind_commas ts)
unfolding plain behind_commas
plain_none [] = refl
plain_none (t ∷ ts) = refl

plain_text : {t : List ℕ} (ts : List (List ℕ)) → Each Inner t → plain (t ++ behind_commas ts) ≡ taken t (behind_commas ts)
unfolding plain joined
plain_text ts nil = plain_none ts
plain_text ts (cons {x = x} {xs = t} d h) =
    rw (ne_eqb x 44 (λ e. omega arith), ne_eqb x 34 (λ e. omega arith)) (ap (joined x) (plain_text ts h))

field_none : (ts : List (List ℕ)) → field (behind_commas ts) ≡ taken [] (behind_commas ts)
unfolding field behind_commas plain
field_none [] = refl
field_none (t ∷ ts) = refl

field_text : {t : List ℕ} (ts : List (List ℕ)) → Each Inner t → field (t ++ behind_commas ts) ≡ taken t (behind_commas ts)
unfolding field
field_text ts nil = field_none ts
field_text ts (cons {x = x} {xs = t} d h) = rw (ne_eqb x 34 (λ e. omega arith)) (plain_text ts (cons d h))

from_last : (fuel : ℕ) {t : List ℕ} → Each Inner t → fields_from (suc fuel) (t ++ behind_commas []) ≡ Some (t ∷ [])
unfolding fields_from behind_commas
from_last fuel {t} h =
    let e : field (t ++ []) ≡ taken t [] = field_text [] h in
    rw (e, fields_from)

from_more : (fuel : ℕ) {t : List ℕ} (u : List ℕ) (us : List (List ℕ)) → Each Inner t
    → fields_from (suc fuel) (t ++ behind_commas (u ∷ us)) ≡ with_field t (fields_from fuel (u ++ behind_commas us))
unfolding fields_from behind_commas
from_more fuel {t} u us h =
    let e : field (t ++ (44 ∷ (u ++ behind_commas us))) ≡ taken t (44 ∷ (u ++ behind_commas us)) = field_text (u ∷ us) h in
    rw (e, fields_from)

from_texts : (fuel : ℕ) {t : List ℕ} {ts : List (List ℕ)} → length ts < fuel → Each Inner t → Each (Each Inner) ts
    → fields_from fuel (t ++ behind_commas ts) ≡ Some (t ∷ ts)
unfolding with_field
from_texts zero l h hs = absurd (omega arith)
from_texts (suc fuel) l h nil = from_last fuel h
from_texts (suc fuel) {t} l h (cons {x = u} {xs = us} k ks) = from_more fuel u us h ∙ ap (with_field t) (from_texts fuel (omega arith) k ks)

-- a comma for each text behind the first
commas : (t : List ℕ) (ts : List (List ℕ)) → length ts ≤ length (t ++ behind_commas ts)
unfolding behind_commas
commas t [] = omega arith
commas t (u ∷ us) = omega (arith, length-append t (44 ∷ (u ++ behind_commas us)), commas u us)

pub fields_with : {t : List ℕ} {ts : List (List ℕ)} → Each Inner t → Each (Each Inner) ts → fields (t ++ behind_commas ts) ≡ Some (t ∷ ts)
unfolding fields
fields_with {t} {ts} h hs = from_texts (suc (length (t ++ behind_commas ts))) (omega (arith, commas t ts)) h hs
