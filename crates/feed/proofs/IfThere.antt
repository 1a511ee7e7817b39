-- What follows from a value that is there, and back.
-- Assumes nothing.
use mathlib.Core.Path.{◌≡◌, refl, sym}
use mathlib.Core.Bool.{Bool, true, false, cond}
use Rattle.std.specs.Prelude.{Option, None, Some}
use Prim.Native.Nat.{ℕ}
use native.Mathlib.Omega.{arith}
use Rattle.csv_text.specs.There.{if_there}

-- nothing is there and not there
pub none_some : {A C : Type 0} {x : A} → None ≡ Some x → C
none_some e = let z : ◌≡◌ {A = ℕ} 0 1 = cc in absurd (omega arith)

pub some_is : {A : Type 0} {x y : A} → Some x ≡ Some y → x ≡ y
some_is e = cc

pub there : {A B : Type 0} (o : Option A) (f : A → Option B) {y : B} → if_there o f ≡ Some y → (x : A) × (o ≡ Some x) × (f x ≡ Some y)
unfolding if_there
there None f e = none_some e
there (Some x) f e = (x, refl, e)

-- where nothing follows: nothing was there, or nothing follows from what was
pub not_there : {A B C : Type 0} (o : Option A) (f : A → Option B) → if_there o f ≡ None → (o ≡ None → C) → ((x : A) → o ≡ Some x → f x ≡ None → C) → C
unfolding if_there
not_there None f e g h = g refl
not_there (Some x) f e g h = h x refl e

-- a value under a test
pub tested : {A : Type 0} (b : Bool) (o : Option A) {y : A} → cond b o None ≡ Some y → (b ≡ true) × (o ≡ Some y)
tested true o e = (refl, e)
tested false o e = none_some e

-- by cases on what is there
pub either_there : {A C : Type 0} (o : Option A) → (o ≡ None → C) → ((x : A) → o ≡ Some x → C) → C
either_there None f g = f refl
either_there (Some x) f g = g x refl

-- nothing follows
pub here_none : {A B : Type 0} (o : Option A) (f : A → Option B) → o ≡ None → if_there o f ≡ None
unfolding if_there
here_none None f e = refl
here_none (Some x) f e = none_some (sym e)

pub follows_none : {A B : Type 0} (o : Option A) (f : A → Option B) → ((x : A) → f x ≡ None) → if_there o f ≡ None
unfolding if_there
follows_none None f h = refl
follows_none (Some x) f h = h x

-- what follows from the value that is there
pub from_there : {A B : Type 0} {o : Option A} (f : A → Option B) {x : A} → o ≡ Some x → if_there o f ≡ f x
unfolding if_there
from_there f e = rw e
