-- The fields of a line. A field that begins with a quote ends at the next quote that is not doubled, and a comma or the line's end follows;
-- what stands between is its text, a doubled quote kept as it stands: two fields have the same text exactly where they stand for the same.
-- Any other field ends at a comma or with the line, and has no quote in it.
use Rattle.std.specs.Prelude.{ℕ, zero, suc, Bool, true, false, cond, List, [], ◌∷◌, eqb, length}
use Rattle.std.specs.Prelude.{Option, None, Some}

-- a field's text and what stands behind it, or no field
pub data Scan : Type 0 where
  taken : List ℕ → List ℕ → Scan
  wrong : Scan

unfoldable pub joined : ℕ → Scan → Scan
joined x (taken t r) = taken (x ∷ t) r
joined x wrong = wrong

unfoldable pub plain : List ℕ → Scan
plain [] = taken [] []
plain (x ∷ b) = cond (eqb x 44) (taken [] (x ∷ b)) (cond (eqb x 34) wrong (joined x (plain b)))

-- behind the opening quote; `quote`: the byte before was a quote, which closes the field unless a second follows
unfoldable pub quoted : Bool → List ℕ → Scan
quoted false [] = wrong
quoted false (x ∷ b) = cond (eqb x 34) (quoted true b) (joined x (quoted false b))
quoted true [] = taken [] []
quoted true (x ∷ b) = cond (eqb x 44) (taken [] (x ∷ b)) (cond (eqb x 34) (joined 34 (joined 34 (quoted false b))) wrong)

unfoldable pub field : List ℕ → Scan
field [] = taken [] []
field (x ∷ b) = cond (eqb x 34) (quoted false b) (plain (x ∷ b))

-- one more field before the others
unfoldable pub with_field : List ℕ → Option (List (List ℕ)) → Option (List (List ℕ))
with_field t None = None
with_field t (Some ts) = Some (t ∷ ts)

-- behind a field stands nothing, or a comma and the next; a field takes its comma, so one more field than bytes are enough
unfoldable pub fields_from : ℕ → List ℕ → Option (List (List ℕ))
fields_from zero l = None
fields_from (suc fuel) l =
    elim (field l) [ wrong ↦ None | taken t r ↦ elim r [ [] ↦ Some (t ∷ []) | c ∷ s ↦ with_field t (fields_from fuel s) ] ]

unfoldable pub fields : List ℕ → Option (List (List ℕ))
fields l = fields_from (suc (length l)) l
