-- The served stops of a list: counted and written stop by stop, what is left leads where the whole leads.
use Prim.Native.Nat.{ℕ, suc, ◌+◌, ◌≤◌, ◌<◌}
use mathlib.Core.Path.{◌≡◌, refl, sym, ap, ◌∙◌}
use mathlib.Core.Bool.{Bool, true, false}
use mathlib.Core.List.{List, [], ◌∷◌, ◌++◌}
use native.Mathlib.Omega.{arith}
use native.Mathlib.Nat.{add-zero, add-suc, suc-add}
use lib.ListN.{length, get_or, set, drop, length-append, drop_of_length-le}
use lib.Seq.{sets}
use mir.Val.{bool_byte}
use Rattle.base.proofs.Choice.{split}
use Rattle.model.specs.Tables.{Net}
use Rattle.model.specs.Places.{served_of}
use Rattle.base.proofs.Below.{left_at}
use Rattle.discovery.specs.Served.{puts, Tally, Filling}

-- ---- one stop

module _ (n : Net) (s : ℕ) {b : Bool} (e : b ≡ n.served s) where
  served_one : b ≡ true → served_of n (s ∷ []) ≡ s ∷ []
  unfolding served_of
  served_one t = rw (← e, t)

  served_none : b ≡ false → served_of n (s ∷ []) ≡ []
  unfolding served_of
  served_none t = rw (← e, t)

  count_one : b ≡ true → 1 ≡ length (served_of n (s ∷ []))
  count_one t = rw (served_one t)

  count_none : b ≡ false → 0 ≡ length (served_of n (s ∷ []))
  count_none t = rw (served_none t)

  count_is : {c : ℕ} → c ≡ bool_byte b → c ≡ length (served_of n (s ∷ []))
  count_is f = split b (λ t. f ∙ ap bool_byte t ∙ count_one t) (λ t. f ∙ ap bool_byte t ∙ count_none t)

  module _ (w : List ℕ) (k : ℕ) where
    pub put_room : b ≡ true → k + length (served_of n (s ∷ [])) ≤ length w → k < length w
    put_room t h = omega (arith, count_one t)

    pub put_one : b ≡ true → set w k s ≡ puts w k (served_of n (s ∷ []))
    unfolding puts
    put_one t = rw (served_one t)

    pub put_none : b ≡ false → w ≡ puts w k (served_of n (s ∷ []))
    unfolding puts
    put_none t = rw (served_none t)

  pub next_one : (k : ℕ) → b ≡ true → k + 1 ≡ k + length (served_of n (s ∷ []))
  next_one k t = omega (arith, count_one t)

  pub next_none : (k : ℕ) → b ≡ false → k ≡ k + length (served_of n (s ∷ []))
  next_none k t = omega (arith, count_none t)

served_split : (n : Net) (s : ℕ) (l : List ℕ) → served_of n (s ∷ l) ≡ served_of n (s ∷ []) ++ served_of n l
unfolding served_of
served_split n s l = split (n.served s) (λ e. rw e) (λ e. rw e)

-- the served of what is left: those of the next, then the others
module _ (n : Net) (l : List ℕ) (i : ℕ) (g : i < length l) where
  pub served_next : served_of n (drop i l) ≡ served_of n (get_or l i 0 ∷ []) ++ served_of n (drop (i + 1) l)
  served_next = ap (served_of n) (left_at l i g) ∙ served_split n (get_or l i 0) (drop (i + 1) l)

pub served_over : (n : Net) (l : List ℕ) {i : ℕ} → length l ≤ i → served_of n (drop i l) ≡ []
unfolding served_of
served_over n l {i} g = ap (served_of n) (drop_of_length-le l {i = i} g)

-- ---- a tally: a part of what is left is counted

module _ {total k : ℕ} {l : List ℕ} where
  pub tally_part : (x y : List ℕ) {c : ℕ} → Tally total k l → l ≡ x ++ y → c ≡ length x → Tally total (k + c) y
  tally_part x y h e f = record { rest = omega (arith, h.rest, ap (λ (m : List ℕ). length m) e, length-append x y) }

  pub tally_moved : (x y : List ℕ) {m : ℕ} → Tally total k l → l ≡ x ++ y → m ≡ k + length x → Tally total m y
  tally_moved x y h e f = record { rest = omega (arith, h.rest, ap (λ (m : List ℕ). length m) e, length-append x y) }

  pub tally_end : Tally total k l → l ≡ [] → k ≡ total
  tally_end h e = omega (arith, h.rest, ap (λ (m : List ℕ). length m) e)

  pub tally_room : (x y : List ℕ) → Tally total k l → l ≡ x ++ y → k + length x ≤ total
  tally_room x y h e = omega (arith, h.rest, ap (λ (m : List ℕ). length m) e, length-append x y)

-- one stop more, by its mark
pub tally_next : (n : Net) (l : List ℕ) (i : ℕ) {total k c : ℕ} {b : Bool} → Tally total k (served_of n (drop i l))
    → i < length l → b ≡ n.served (get_or l i 0) → c ≡ bool_byte b
    → Tally total (k + c) (served_of n (drop (i + 1) l))
tally_next n l i h g e f =
    tally_part (served_of n (get_or l i 0 ∷ [])) (served_of n (drop (i + 1) l)) h (served_next n l i g)
    (count_is n (get_or l i 0) e f)

pub tally_start : (l : List ℕ) → Tally (length l) 0 l
tally_start l = record { rest = omega arith }

pub tally_from : (k : ℕ) (l : List ℕ) → Tally (k + length l) k l
tally_from k l = record { rest = refl }

-- ---- a filling: a part of what is left is written

sets_append : (w : List ℕ) (k : ℕ) (xs ys : List ℕ) → sets w k (xs ++ ys) ≡ sets (sets w k xs) (k + length xs) ys
sets_append w k [] ys = ap (λ (j : ℕ). sets w j ys) (sym (add-zero k))
sets_append w k (x ∷ xs) ys =
    sets_append (set w k x) (suc k) xs ys
    ∙ ap (λ (j : ℕ). sets (sets (set w k x) (suc k) xs) j ys) (suc-add k (length xs) ∙ sym (add-suc k (length xs)))

module _ {goal w : List ℕ} {k : ℕ} {l : List ℕ} where
  pub filling_part : (x y : List ℕ) {v : List ℕ} {m : ℕ} → Filling goal w k l → l ≡ x ++ y → v ≡ puts w k x
      → m ≡ k + length x
      → Filling goal v m y
  unfolding puts
  filling_part x y h e f g =
      record { rest = rw (f, g) (sym (sets_append w k x y) ∙ ap (sets w k) (sym e) ∙ h.rest) }

  pub filling_end : Filling goal w k l → l ≡ [] → w ≡ goal
  unfolding puts
  filling_end h e = ap (sets w k) (sym e) ∙ h.rest

pub filling_start : (w : List ℕ) (k : ℕ) (l : List ℕ) → Filling (puts w k l) w k l
filling_start w k l = record { rest = refl }

-- what is left to write has room where the whole has
pub left_room : (n : Net) (l : List ℕ) (i : ℕ) {total m size size₀ : ℕ} → Tally total m (served_of n (drop i l))
    → i < length l → total ≤ size₀
    → size ≡ size₀ → m + length (served_of n (get_or l i 0 ∷ [])) ≤ size
left_room n l i h g f e =
    omega (arith, tally_room (served_of n (get_or l i 0 ∷ [])) (served_of n (drop (i + 1) l)) h (served_next n l i g))
