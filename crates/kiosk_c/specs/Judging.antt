-- A handheld's journey through the C face: the number, and one word that is 1 for yes, 0 for no, or the offset of 13.
use Rattle.std.specs.Prelude.{ℕ, true, false, cond, Ok, Err, List, ◌∷◌, leb, length, drop}
use Rattle.model.specs.declared.Query.{Query}
use Rattle.repository.specs.Checked.{check_of}
use Rattle.repository.specs.NetOf.{net_of}
use Rattle.handheld.specs.declared.NoVerdict.TheVariants.{Bad, Refused}
use Rattle.handheld.specs.Judged.{Verdict, judged, verdict_number}
use Rattle.kiosk_c.specs.Face.{short_number}

unfoldable pub verdict_in : Verdict → List ℕ → List ℕ
verdict_in (Ok true) told = 1 ∷ drop 1 told
verdict_in (Ok false) told = 0 ∷ drop 1 told
verdict_in (Err (Bad b)) told = b.at ∷ drop 1 told
verdict_in (Err (Refused x)) told = told

-- where there is no word for it: the tables' own number, or 6
unfoldable pub judge_number : List ℕ → Query → List ℕ → List ℕ → ℕ
judge_number w q b told = cond (leb 1 (length told)) (verdict_number (judged (check_of w) (net_of w) q b)) (short_number (check_of w))

unfoldable pub judge_left : List ℕ → Query → List ℕ → List ℕ → List ℕ
judge_left w q b told = cond (leb 1 (length told)) (verdict_in (judged (check_of w) (net_of w) q b) told) told
