-- The line of a verdict, written part by part; and that what is judged has one. Assumes nothing.
use Prim.Native.Nat.{ℕ, zero, suc, ◌+◌, ◌^◌, ◌≤◌, ◌<◌}
use mathlib.Core.Path.{◌≡◌, refl, ap, ◌∙◌}
use mathlib.Core.Bool.{true}
use mathlib.Core.List.{List, [], ◌∷◌, ◌++◌}
use native.Mathlib.Omega.{arith}
use lib.ListN.{length, set}
use Rattle.base.specs.Put.{with_bytes}
use Rattle.base.proofs.Put.{put_then, put_one, put_length}
use Rattle.numbers.specs.Decimal.{digits}
use Rattle.numbers.proofs.Written.{digits_few}
use Rattle.model.specs.declared.Query.{Query}
use Rattle.model.specs.Tables.{Net}
use Rattle.model.specs.Answer.{lowest, unless}
use Rattle.model.specs.Bytes.{Read, legs, bad, read}
use Rattle.model.proofs.ReadBack.{bad_means}
use Rattle.handheld.specs.Judged.{Verdict, verdict_refused, judged_as, judged}
use Rattle.verdict_line.specs.Printed.{bad_line, Printable}

-- ---- a number, and `bad` with one behind it
pub few : (n : ℕ) → n < 2 ^ 32 → length (digits n) ≤ 10
few n h = digits_few n (omega arith)

pub bad_put : (o : ℕ) (b : List ℕ) {x y : List ℕ} {at e : ℕ} → 16 ≤ length b → at ≡ 4 → x ≡ with_bytes b 0 (98 ∷ 97 ∷ 100 ∷ 32 ∷ [])
    → y ≡ with_bytes x at (digits o) → e ≡ at + length (digits o) → e ≤ at + 10 → set y e 10 ≡ with_bytes b 0 (bad_line o)
bad_put o b {x} {y} {at} {e} h a f g q l =
    let w : List ℕ = 98 ∷ 97 ∷ 100 ∷ 32 ∷ [] in
    let g₄ : y ≡ with_bytes x 4 (digits o) = rw a at g in
    let q₄ : e ≡ 4 + length (digits o) = omega arith in
    let lx : length x ≡ length b = ap length f ∙ put_length b 0 w (omega arith) in
    let ly : length y ≡ length x = ap length g₄ ∙ put_length x 4 (digits o) (omega arith) in
    let z : set y e 10 ≡ with_bytes y (4 + length (digits o)) (10 ∷ []) =
    put_one y e 10 (omega arith) ∙ ap (λ (i : ℕ). with_bytes y i (10 ∷ [])) q₄ in
    put_then b 0 w (digits o ++ (10 ∷ [])) (omega arith) f (put_then x 4 (digits o) (10 ∷ []) (omega arith) g₄ z)

-- ---- what is judged has a line
read_printed : (n : Net) (q : Query) (b : List ℕ) (r : Read) → read b ≡ r → length b ≤ 4_294_967_295 → Printable (judged_as n q r)
unfolding judged_as
read_printed n q b (legs gs) e h = tt
read_printed n q b (bad o) e h = omega (arith, (bad_means b o e).inside)

unless_printed : (v : Verdict) (k : ℕ) → Printable v → Printable (unless verdict_refused v k)
unfolding unless
unless_printed v zero p = p
unless_printed v (suc k) p = tt

pub judged_printed : (fault : ℕ) (n : Net) (q : Query) (b : List ℕ) {v : Verdict} → length b ≤ 32_768 → v ≡ judged fault n q b → Printable v
unfolding judged
judged_printed fault n q b h e =
    rw e (unless_printed (judged_as n q (read b)) (lowest fault true n q) (read_printed n q b (read b) refl (omega arith)))
