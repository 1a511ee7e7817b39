-- Digits and moments as fields: no byte of them ends a field, and digits are an id.
-- Assumes nothing.
use Prim.Native.Nat.{ℕ, ◌<◌}
use mathlib.Core.Path.{◌≡◌, refl}
use mathlib.Core.Bool.{true}
use mathlib.Core.List.{List, [], ◌∷◌}
use native.Mathlib.Omega.{arith}
use lib.ListN.{length}
use Rattle.base.specs.Each.{Each}
use Rattle.base.proofs.Each.{each_map}
use Rattle.numbers.specs.Decimal.{digits}
use Rattle.numbers.proofs.Written.{Shown, digits_shown, digits_some}
use Rattle.feed.specs.Times.{is_id}
use Rattle.feed.proofs.Lined.{Inner}

pub shown_inner : {t : List ℕ} → Each Shown t → Each Inner t
shown_inner h = each_map (λ x d. omega (arith, d.0)) h

pub digits_inner : (n : ℕ) → Each Inner (digits n)
digits_inner n = shown_inner (digits_shown n)

id_some : (t : List ℕ) → 0 < length t → is_id t ≡ true
unfolding is_id
id_some [] h = absurd (omega arith)
id_some (x ∷ t) h = refl

pub id_digits : (n : ℕ) → is_id (digits n) ≡ true
id_digits n = id_some (digits n) (digits_some n)
