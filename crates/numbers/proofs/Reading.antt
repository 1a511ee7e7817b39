-- Digits read one by one: the value so far and what is left say what all of them are.
-- Assumes nothing.
use Prim.Native.Nat.{ℕ, ◌+◌, ◌-◌, ◌*◌, ◌≤◌, ◌<◌}
use mathlib.Core.Path.{◌≡◌, refl, sym, ap, ◌∙◌}
use mathlib.Core.Bool.{true, cond}
use Rattle.std.specs.Prelude.{Option, None, Some}
use mathlib.Core.List.{List, [], ◌∷◌}
use native.Mathlib.Omega.{arith}
use lib.ListN.{length, get_or, drop, drop_of_length-le}
use lib.Seq.{drop-cons}
use native.Mathlib.Numerals.{add-one}
use lib.Dec.{leb}
use borrow.Author.Tests.{le-leb, lt-leb, leb-true}
use Rattle.base.proofs.Choice.{split}
use Rattle.csv_text.specs.There.{if_there}
use Rattle.numbers.specs.Decimal.{decimal_from, decimal}

-- ---- one digit
module _ (x : ℕ) where
  pub digit_is : {d : ℕ} → 48 ≤ x → x ≤ 57 → d ≡ x - 48 → Some d ≡ decimal (x ∷ [])
  unfolding decimal decimal_from
  digit_is h k e =
      let z : 0 * 10 + (x - 48) ≡ x - 48 = omega arith in
      rw (le-leb 48 x h, le-leb x 57 k, z, le-leb (x - 48) 4_294_967_295 (omega arith), e)

  pub digit_low : x < 48 → None ≡ decimal (x ∷ [])
  unfolding decimal decimal_from
  digit_low h = rw (lt-leb 48 x h)

  pub digit_high : 57 < x → None ≡ decimal (x ∷ [])
  unfolding decimal decimal_from
  digit_high h = rw (le-leb 48 x (omega arith), lt-leb x 57 h)

-- a digit before others
pub digit_first : (v x : ℕ) (b : List ℕ) → decimal_from v (x ∷ b)
    ≡ if_there (decimal (x ∷ [])) (λ d. cond (leb (v * 10 + d) 4_294_967_295) (decimal_from (v * 10 + d) b) None)
unfolding decimal decimal_from if_there
digit_first v x b =
    split (leb 48 x)
    (λ l.
    split (leb x 57)
    (λ m.
    let most = leb-true x 57 m in
    let z : 0 * 10 + (x - 48) ≡ x - 48 = omega arith in
    let s : leb (x - 48) 4_294_967_295 ≡ true = le-leb (x - 48) 4_294_967_295 (omega arith) in
    rw (l, m, z, s))
    (λ m. rw (l, m)))
    (λ l. rw l)

-- ---- all of them
pub decimal_empty : (b : List ℕ) → length b ≡ 0 → None ≡ decimal b
unfolding decimal
decimal_empty [] h = refl
decimal_empty (x ∷ b) h = absurd (omega arith)

pub record Reads (b : List ℕ) (v i : ℕ) : Type 0 where
  rest : decimal_from v (drop i b) ≡ decimal b

pub reads_start : {b : List ℕ} → (length b ≡ 0 → ⊥) → Reads b 0 0
unfolding decimal
reads_start {b = []} h = absurd (h refl)
reads_start {b = x ∷ b} h = record { rest = refl }

module _ {b : List ℕ} {v i : ℕ} (r : Reads b v i) where
  module _ (h : i < length b) where
    here : decimal b
        ≡ if_there (decimal (get_or b i 0 ∷ [])) (λ d. cond (leb (v * 10 + d) 4_294_967_295) (decimal_from (v * 10 + d) (drop (i + 1) b)) None)
    here =
        sym r.rest ∙ ap (decimal_from v) (rw (drop-cons b i 0 h, add-one)) ∙ digit_first v (get_or b i 0) (drop (i + 1) b)

    pub reads_no_digit : None ≡ decimal (get_or b i 0 ∷ []) → None ≡ decimal b
    unfolding if_there
    reads_no_digit n = rw (here, ← n)

    pub reads_large : {d : ℕ} → Some d ≡ decimal (get_or b i 0 ∷ []) → 4294967295 < v * 10 + d → None ≡ decimal b
    unfolding if_there
    reads_large {d} s l = rw (here, ← s, lt-leb (v * 10 + d) 4_294_967_295 l)

    -- ten times the value is too large already, whatever the digit
    pub reads_tens_large : 4294967295 < v * 10 → None ≡ decimal b
    unfolding if_there
    reads_tens_large l = sym (here ∙ any (decimal (get_or b i 0 ∷ [])))
      where
        any : (o : Option ℕ) → if_there o (λ d. cond (leb (v * 10 + d) 4_294_967_295) (decimal_from (v * 10 + d) (drop (i + 1) b)) None) ≡ None
        any None = refl
        any (Some d) = rw (lt-leb (v * 10 + d) 4_294_967_295 (omega arith))

    pub reads_on : {d w : ℕ} → Some d ≡ decimal (get_or b i 0 ∷ []) → w ≡ v * 10 + d → w ≤ 4294967295 → Reads b w (i + 1)
    unfolding if_there
    reads_on {d} {w} s q l = record { rest = sym (rw (here, ← s, ← q, le-leb w 4_294_967_295 l)) }

  pub reads_end : length b ≤ i → Some v ≡ decimal b
  unfolding decimal_from
  reads_end h = rw (drop_of_length-le b h) at r.rest
