-- What is printed of a verdict: `yes`, `no`, `bad` and the offset, or the number of a refusal.
use Rattle.std.specs.Prelude.{ℕ, ◌≤◌, true, false, List, [], ◌∷◌, ◌++◌, Ok, Err}
use Rattle.model.specs.Refusal.{refusal_number}
use Rattle.numbers.specs.Decimal.{digits}
use Rattle.handheld.specs.declared.NoVerdict.TheVariants.{Bad, Refused}
use Rattle.handheld.specs.Judged.{Verdict}

-- `bad `, the offset's digits, and the end of the line
abbrev pub bad_line : ℕ → List ℕ
bad_line o = (98 ∷ 97 ∷ 100 ∷ 32 ∷ []) ++ (digits o ++ (10 ∷ []))

-- in ASCII; 10 ends a line. Behind a refusal's number stands what it means, and then the line ends
abbrev pub verdict_line : Verdict → List ℕ
verdict_line (Ok true) = 121 ∷ 101 ∷ 115 ∷ 10 ∷ []
verdict_line (Ok false) = 110 ∷ 111 ∷ 10 ∷ []
verdict_line (Err (Bad b)) = bad_line b.at
verdict_line (Err (Refused x)) = digits (refusal_number x)

-- the offset is one of bytes that a program could hold
abbrev pub Printable : Verdict → Type 0
Printable (Ok right) = Unit {0}
Printable (Err (Bad b)) = b.at ≤ 4_294_967_295
Printable (Err (Refused x)) = Unit {0}
