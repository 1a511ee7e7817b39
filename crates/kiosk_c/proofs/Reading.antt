-- What `kiosk_read` and `kiosk_leg` tell.
use Prim.Native.Nat.{ℕ, ◌≤◌}
use mathlib.Core.Path.{◌≡◌, refl, sym, ◌∙◌}
use mathlib.Core.List.{List, [], ◌∷◌}
use native.Mathlib.Omega.{arith}
use lib.ListN.{length, drop, set}
use borrow.Author.Tests.{le-leb}
use Rattle.model.specs.declared.Leg.{Leg}
use Rattle.model.specs.Bytes.{leg_size}
use Rattle.std.specs.Prelude.{Option, Result, None, Some, Ok}
use Rattle.journey.specs.declared.BadLeg.{BadLeg}
use Rattle.kiosk_c.specs.Legs.{leg_bytes, leg_words, leg_number, leg_left}
use Rattle.kiosk_words.specs.Words.{leg_told_in}

pub first : (v : ℕ) (l : List ℕ) → 1 ≤ length l → set l 0 v ≡ v ∷ drop 1 l
first v (x ∷ l) h = refl
first v [] h = absurd (omega arith)

module _ (x : Option (Result Leg BadLeg)) (leg : List ℕ) (h : 6 ≤ length leg) {y : Option (Result Leg BadLeg)} (is : y ≡ x) where
  pub whole_number : {g : Leg} {r : ℕ} → y ≡ Some (Ok g) → r ≡ leg_size g.kind → r ≡ leg_number x leg
  unfolding leg_number leg_bytes
  whole_number e f = rw (le-leb 6 (length leg) h, sym is ∙ e) f

  pub whole_left : {g : Leg} {leg' : List ℕ} → y ≡ Some (Ok g) → leg' ≡ leg_told_in g leg → leg' ≡ leg_left x leg
  unfolding leg_left leg_words
  whole_left e f = rw (le-leb 6 (length leg) h, sym is ∙ e) f

  pub end_number : y ≡ None → 0 ≡ leg_number x leg
  unfolding leg_number leg_bytes
  end_number e = rw (le-leb 6 (length leg) h, sym is ∙ e)

  pub end_left : y ≡ None → leg ≡ leg_left x leg
  unfolding leg_left leg_words
  end_left e = rw (le-leb 6 (length leg) h, sym is ∙ e)
