-- "The depot wants a yes or no from tables, query and bytes. .. Refusals: tables as 1 to 5, then 7, 8, 9, 13."
use Rattle.std.specs.Prelude.{ℕ, Bool, true, List, Result, Ok, Err}
use Rattle.model.specs.declared.Query.{Query}
use Rattle.model.specs.Tables.{Net}
use Rattle.model.specs.Bytes.{Read, legs, bad, read}
use Rattle.model.specs.Answer.{lowest, unless}
use Rattle.model.specs.Refusal.{refusal_number, refusal_of}
use Rattle.handheld.specs.declared.NoVerdict.{NoVerdict}
use Rattle.handheld.specs.declared.NoVerdict.TheVariants.{Bad, Refused}
use Rattle.handheld.specs.Verdict.{verdict}

-- a `Verdict`, since an alias has no name here: yes and no are `Ok true` and `Ok false`
abbrev pub Verdict : Type 0
Verdict = Result Bool NoVerdict

-- of what the bytes are: the verdict on legs, "13 only the offset of the bad leg's first byte"
unfoldable pub judged_as : Net → Query → Read → Verdict
judged_as n q (legs gs) = Ok (verdict n q gs)
judged_as n q (bad o) = Err (Bad (record { at = o }))

-- 1 to 5, 7, 8, 9
abbrev pub verdict_refused : ℕ → Verdict
verdict_refused k = Err (Refused (refusal_of k))

-- the tables have the fault `fault`, 0 for none. There is no workspace, so no 6
unfoldable pub judged : ℕ → Net → Query → List ℕ → Verdict
judged fault n q b = unless verdict_refused (judged_as n q (read b)) (lowest fault true n q)

-- document 01's number of a verdict; a yes and a no are both 0
unfoldable pub verdict_number : Verdict → ℕ
verdict_number (Ok right) = 0
verdict_number (Err (Bad b)) = 13
verdict_number (Err (Refused x)) = refusal_number x
