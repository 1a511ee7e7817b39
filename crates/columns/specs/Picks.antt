-- The five fields that are wanted of a line, each by its place, and where a column stands in a header.
use Rattle.std.specs.Prelude.{ℕ, suc, ◌≤◌, Bool, true, false, cond, List, [], ◌∷◌, length, get_or}
use Rattle.std.specs.Prelude.{Option, None, Some}
use Rattle.csv_text.specs.Part.{part}
use Rattle.csv_text.specs.Texts.{same_text}
use Rattle.columns.specs.declared.Span.{Span}
use Rattle.columns.specs.declared.Picked.{Picked}
use Rattle.columns.specs.declared.Column.{Column}
use Rattle.columns.specs.declared.Column.TheVariants.{At, Absent, Twice}

-- how many fields a line has, and the texts of five of them; behind the last field the text is empty
pub record Five : Type 0 where
  pub count : ℕ
  pub one : List ℕ
  pub two : List ℕ
  pub three : List ℕ
  pub four : List ℕ
  pub five : List ℕ

unfoldable pub five_of : List ℕ → List (List ℕ) → Five
five_of w ts =
    record {
      count = length ts;
      one = get_or ts (get_or w 0 0) [];
      two = get_or ts (get_or w 1 0) [];
      three = get_or ts (get_or w 2 0) [];
      four = get_or ts (get_or w 3 0) [];
      five = get_or ts (get_or w 4 0) [];
    }

-- the five texts of a line, or none where a field of it is wrong
unfoldable pub five_in : List ℕ → Option (List (List ℕ)) → Option Five
five_in w None = None
five_in w (Some ts) = Some (five_of w ts)

-- the text of a span
unfoldable pub text_at : List ℕ → Span → List ℕ
text_at b s = part s.from s.to b

-- where the text of wanted field j stands
abbrev pub wanted_span : Picked → ℕ → Span
wanted_span p j = get_or p.spans j (record { from = 0; to = 0 })

-- the texts that an answer is
unfoldable pub picked_in : List ℕ → Option Picked → Option Five
picked_in b (Some p) =
    Some
    (record {
      count = p.count;
      one = text_at b (wanted_span p 0);
      two = text_at b (wanted_span p 1);
      three = text_at b (wanted_span p 2);
      four = text_at b (wanted_span p 3);
      five = text_at b (wanted_span p 4);
    })
picked_in b None = None

-- where it stands
abbrev pub Spanned : List ℕ → Span → Type 0
Spanned b s = (s.from ≤ s.to) × (s.to ≤ length b)

abbrev pub AllSpanned : List ℕ → Option Picked → Type 0
AllSpanned b (Some p) =
    Spanned b (wanted_span p 0) × Spanned b (wanted_span p 1) × Spanned b (wanted_span p 2) × Spanned b (wanted_span p 3) × Spanned b (wanted_span p 4)
AllSpanned b None = Unit {0}

-- ---- a header
unfoldable pub is_named : List ℕ → List (List ℕ) → Bool
is_named name [] = false
is_named name (t ∷ ts) = cond (same_text t name) true (is_named name ts)

-- a column stands nowhere, at one place, or at several
unfoldable pub column_from : ℕ → List ℕ → List (List ℕ) → Column
column_from i name [] = Absent
column_from i name (t ∷ ts) = cond (same_text t name) (cond (is_named name ts) Twice (At i)) (column_from (suc i) name ts)

unfoldable pub column_of : List ℕ → List (List ℕ) → Column
column_of name ts = column_from 0 name ts

-- in a line whose fields are right; else nowhere
unfoldable pub column_in : List ℕ → Option (List (List ℕ)) → Column
column_in name None = Absent
column_in name (Some ts) = column_of name ts
