-- A clock's bytes read: two digits as a number, and HH:MM:SS or H:MM:SS as a moment.
-- Assumes nothing.
use Prim.Native.Nat.{ℕ, ◌+◌, ◌*◌, ◌≤◌, ◌<◌}
use mathlib.Core.Path.{◌≡◌}
use mathlib.Core.Bool.{cond}
use Rattle.std.specs.Prelude.{None, Some}
use mathlib.Core.List.{List, [], ◌∷◌}
use native.Mathlib.Omega.{arith}
use lib.ListN.{length, get_or}
use lib.Dec.{leb}
use borrow.Author.Tests.{le-leb, lt-leb, eq-eqb, ne_eqb}
use Rattle.csv_text.specs.There.{if_there}
use Rattle.numbers.specs.Decimal.{decimal_from, decimal}
use Rattle.numbers.specs.Clock.{up_to, eight_bytes, clock}
use Rattle.numbers.proofs.Reading.{digit_first}

-- ---- two digits
module _ (most x y : ℕ) where
  pub first_none : None ≡ decimal (x ∷ []) → None ≡ up_to most x y
  unfolding up_to decimal if_there
  first_none n = rw (digit_first 0 x (y ∷ []), ← n)

  module _ {d : ℕ} (s : Some d ≡ decimal (x ∷ [])) (h : d ≤ 9) where
    pub second_none : None ≡ decimal (y ∷ []) → None ≡ up_to most x y
    unfolding up_to decimal if_there
    second_none n = rw (digit_first 0 x (y ∷ []), ← s, le-leb (0 * 10 + d) 4_294_967_295 (omega arith), digit_first (0 * 10 + d) y [], ← n)

    module _ {e v : ℕ} (t : Some e ≡ decimal (y ∷ [])) (k : e ≤ 9) (q : v ≡ d * 10 + e) where
      both : up_to most x y ≡ cond (leb v most) (Some v) None
      unfolding up_to decimal decimal_from if_there
      both =
          let f : (0 * 10 + d) * 10 + e ≡ v = omega arith in
          let small = le-leb (0 * 10 + d) 4_294_967_295 (omega arith) in
          rw (digit_first 0 x (y ∷ []), ← s, small, digit_first (0 * 10 + d) y [], ← t, f, le-leb v 4_294_967_295 (omega arith))

      pub too_many : most < v → None ≡ up_to most x y
      too_many n = rw (both, lt-leb v most n)

      pub two_read : v ≤ most → Some v ≡ up_to most x y
      two_read n = rw (both, le-leb v most n)

-- ---- a text that is no moment by its length or by what stands in place of a colon, and one that may be
module _ (t : List ℕ) where
  pub clock_short : length t < 7 → None ≡ clock t
  unfolding clock
  clock_short h = rw (ne_eqb (length t) 8 (λ e. absurd (omega arith)), ne_eqb (length t) 7 (λ e. absurd (omega arith)))

  pub clock_long : 9 ≤ length t → None ≡ clock t
  unfolding clock
  clock_long h = rw (ne_eqb (length t) 8 (λ e. absurd (omega arith)), ne_eqb (length t) 7 (λ e. absurd (omega arith)))

  module _ (h : 7 ≤ length t) (k : length t < 8) where
    clock_seven : clock t ≡ eight_bytes (48 ∷ t)
    unfolding clock
    clock_seven = rw (ne_eqb (length t) 8 (λ e. absurd (omega arith)), eq-eqb (length t) 7 (omega arith))

    pub seven_no_colon : (get_or t 1 0 ≡ 58 → ⊥) → None ≡ clock t
    unfolding eight_bytes
    seven_no_colon n = rw (clock_seven, ne_eqb (get_or t 1 0) 58 n)

    module _ (x : get_or t 1 0 ≡ 58) where
      pub seven_no_second : (get_or t 4 0 ≡ 58 → ⊥) → None ≡ clock t
      unfolding eight_bytes
      seven_no_second n = rw (clock_seven, x, ne_eqb (get_or t 4 0) 58 n)

      pub seven_read : get_or t 4 0 ≡ 58
          → eight_bytes (48 ∷ get_or t 0 0 ∷ 58 ∷ get_or t 2 0 ∷ get_or t 3 0 ∷ 58 ∷ get_or t 5 0 ∷ get_or t 6 0 ∷ []) ≡ clock t
      unfolding eight_bytes
      seven_read y = rw (clock_seven, x, y)

  module _ (h : 8 ≤ length t) (k : length t < 9) where
    clock_eight : clock t ≡ eight_bytes t
    unfolding clock
    clock_eight = rw (eq-eqb (length t) 8 (omega arith))

    pub eight_no_colon : (get_or t 2 0 ≡ 58 → ⊥) → None ≡ clock t
    unfolding eight_bytes
    eight_no_colon n = rw (clock_eight, ne_eqb (get_or t 2 0) 58 n)

    module _ (x : get_or t 2 0 ≡ 58) where
      pub eight_no_second : (get_or t 5 0 ≡ 58 → ⊥) → None ≡ clock t
      unfolding eight_bytes
      eight_no_second n = rw (clock_eight, x, ne_eqb (get_or t 5 0) 58 n)

      pub eight_read : get_or t 5 0 ≡ 58
          → eight_bytes (get_or t 0 0 ∷ get_or t 1 0 ∷ 58 ∷ get_or t 3 0 ∷ get_or t 4 0 ∷ 58 ∷ get_or t 6 0 ∷ get_or t 7 0 ∷ []) ≡ clock t
      unfolding eight_bytes
      eight_read y = rw (clock_eight, x, y)
