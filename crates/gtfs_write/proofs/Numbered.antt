-- A writer's answer is told by the number of its refusal: no two refusals have one number.
-- Assumes nothing.
use Prim.Native.Nat.{ℕ, zero, suc}
use mathlib.Core.Path.{◌≡◌, refl, sym, ap, ◌∙◌}
use Rattle.std.specs.Prelude.{Result, Ok, Err}
use Rattle.gtfs_write.specs.declared.Unwritten.{Unwritten}
use Rattle.gtfs_write.specs.declared.Unwritten.TheVariants.{Shape, Listing, Moments, Transfers, Full}
use Rattle.gtfs_write.specs.Refusing.{unwritten_number, by_number}

-- the refusal that has a number
named_by : ℕ → Unwritten
named_by zero = Full
named_by (suc zero) = Shape
named_by (suc (suc zero)) = Listing
named_by (suc (suc (suc zero))) = Moments
named_by (suc (suc (suc (suc zero)))) = Full
named_by (suc (suc (suc (suc (suc zero))))) = Transfers
named_by (suc (suc (suc (suc (suc (suc k)))))) = Full

named_back : (u : Unwritten) → named_by (unwritten_number u) ≡ u
unfolding named_by
named_back Shape = refl
named_back Listing = refl
named_back Moments = refl
named_back Transfers = refl
named_back Full = refl

-- the answer that has a number of a refusal, or so many bytes
told_by : Result ℕ ℕ → Result ℕ Unwritten
told_by (Ok n) = Ok n
told_by (Err k) = Err (named_by k)

told_back : (x : Result ℕ Unwritten) → told_by (by_number x) ≡ x
unfolding told_by
told_back (Ok n) = refl
told_back (Err u) = ap (λ v. Err v) (named_back u)

pub by_number_once : (x y : Result ℕ Unwritten) → by_number x ≡ by_number y → x ≡ y
by_number_once x y e = sym (told_back x) ∙ ap told_by e ∙ told_back y
