-- Refusals and their numbers, 1 to 9: one for each, and each its own.
use Prim.Native.Nat.{ℕ, zero, suc, ◌≤◌, ◌<◌}
use mathlib.Core.Path.{◌≡◌, refl, sym, ap, ◌∙◌}
use native.Mathlib.Omega.{arith}
use Rattle.std.specs.Prelude.{Result, Ok, Err}
use Rattle.model.specs.declared.Refusal.{Refusal}
use Rattle.model.specs.declared.Refusal.TheVariants.{Shape, Listing, Times, Order, Distances, Room, Place, Moment, Barren}
use Rattle.model.specs.Refusal.{refusal_number, number_given, refusal_of}

-- each refusal has a number from 1 to 9 of its own
pub number_range : (x : Refusal) → (0 < refusal_number x) × (refusal_number x ≤ 9)
number_range Shape = (omega arith, omega arith)
number_range Listing = (omega arith, omega arith)
number_range Times = (omega arith, omega arith)
number_range Order = (omega arith, omega arith)
number_range Distances = (omega arith, omega arith)
number_range Room = (omega arith, omega arith)
number_range Place = (omega arith, omega arith)
number_range Moment = (omega arith, omega arith)
number_range Barren = (omega arith, omega arith)

pub refusal_of-number : (x : Refusal) → refusal_of (refusal_number x) ≡ x
refusal_of-number Shape = refl
refusal_of-number Listing = refl
refusal_of-number Times = refl
refusal_of-number Order = refl
refusal_of-number Distances = refl
refusal_of-number Room = refl
refusal_of-number Place = refl
refusal_of-number Moment = refl
refusal_of-number Barren = refl

-- and the other way: the number that a refusal was named by is its own
pub number-refusal_of : (k : ℕ) → 0 < k → k ≤ 9 → refusal_number (refusal_of k) ≡ k
number-refusal_of zero h l = absurd (omega arith)
number-refusal_of (suc zero) h l = refl
number-refusal_of (suc (suc zero)) h l = refl
number-refusal_of (suc (suc (suc zero))) h l = refl
number-refusal_of (suc (suc (suc (suc zero)))) h l = refl
number-refusal_of (suc (suc (suc (suc (suc zero))))) h l = refl
number-refusal_of (suc (suc (suc (suc (suc (suc zero)))))) h l = refl
number-refusal_of (suc (suc (suc (suc (suc (suc (suc zero))))))) h l = refl
number-refusal_of (suc (suc (suc (suc (suc (suc (suc (suc zero)))))))) h l = refl
number-refusal_of (suc (suc (suc (suc (suc (suc (suc (suc (suc zero))))))))) h l = refl
number-refusal_of (suc (suc (suc (suc (suc (suc (suc (suc (suc (suc k)))))))))) h l = absurd (omega arith)

-- what a check gives back is told by its number
pub given_once : (x y : Result (Unit {0}) Refusal) → number_given x ≡ number_given y → x ≡ y
given_once (Ok u) (Ok v) e = refl
given_once (Ok u) (Err s) e = absurd (omega (arith, (number_range s).0, e))
given_once (Err r) (Ok v) e = absurd (omega (arith, (number_range r).0, e))
given_once (Err r) (Err s) e = ap (λ x. Err x) (sym (refusal_of-number r) ∙ ap refusal_of e ∙ refusal_of-number s)
