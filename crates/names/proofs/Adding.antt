-- One more name: its row behind the others, and its slot's head.
-- Assumes nothing.
use Prim.Native.Nat.{ℕ, zero, suc, ◌+◌, ◌*◌, ◌≤◌, ◌<◌}
use mathlib.Core.Path.{◌≡◌, refl, sym, ap, ◌∙◌}
use mathlib.Core.Bool.{true, false}
use mathlib.Core.List.{List}
use native.Mathlib.Omega.{arith}
use native.Mathlib.Numerals.{add-one}
use lib.ListN.{length, get_or, set, drop, length-set}
use lib.Seq.{get_or-set_same, get_or-set_other, drop-set-lt}
use lib.Dec.{eqb, ltb}
use borrow.Author.Tests.{eqb-true, eqb-false, eq-eqb, ne_eqb, ltb-true, ltb-false, le-ltb}
use Rattle.base.proofs.Choice.{split}
use Rattle.csv_text.specs.Part.{part}
use Rattle.names.specs.declared.Shelf.{Shelf}
use Rattle.names.specs.Book.{slot_of, last_in, start_at, end_at, next_at, file_of, name_at, one_more, Book, Added}

-- the last of a slot, by the names alone
pub last_same : (cap : ℕ) (name name' : ℕ → List ℕ) (b q : ℕ) → ((i : ℕ) → i < q → name i ≡ name' i) → last_in cap name b q ≡ last_in cap name' b q
unfolding last_in
last_same cap name name' b zero h = refl
last_same cap name name' b (suc q) h =
    let z = last_same cap name name' b q (λ i l. h i (omega arith)) in
    rw (h q (omega arith), z)

module _ (w : List ℕ) (r b x y z v : ℕ) (h : r + 2 < length w) (k : b < r) where
  abbrev w₁ : List ℕ
  w₁ = set w r x

  abbrev w₂ : List ℕ
  w₂ = set (set w r x) (r + 1) y

  abbrev w₃ : List ℕ
  w₃ = set (set (set w r x) (r + 1) y) (r + 2) z

  abbrev w₄ : List ℕ
  w₄ = set (set (set (set w r x) (r + 1) y) (r + 2) z) b v

  long₁ : length w₁ ≡ length w
  long₁ = length-set w r x

  long₂ : length w₂ ≡ length w
  long₂ = length-set w₁ (r + 1) y ∙ long₁

  long₃ : length w₃ ≡ length w
  long₃ = length-set w₂ (r + 2) z ∙ long₂

  long₄ : length w₄ ≡ length w
  long₄ = length-set w₃ b v ∙ long₃

  other : (j : ℕ) → (j ≡ r → ⊥) → (j ≡ r + 1 → ⊥) → (j ≡ r + 2 → ⊥) → (j ≡ b → ⊥) → get_or w₄ j 0 ≡ get_or w j 0
  other j a c d e =
      get_or-set_other w₃ b j v 0 e ∙ get_or-set_other w₂ (r + 2) j z 0 d ∙ get_or-set_other w₁ (r + 1) j y 0 c ∙ get_or-set_other w r j x 0 a

  behind : (d : ℕ) → r + 2 < d → drop d w₄ ≡ drop d w
  behind d g =
      drop-set-lt d w₃ b v (omega arith) ∙ drop-set-lt d w₂ (r + 2) z g ∙ drop-set-lt d w₁ (r + 1) y (omega arith) ∙ drop-set-lt d w r x (omega arith)

  head_is : get_or w₄ b 0 ≡ v
  head_is = get_or-set_same w₃ b v 0 (omega (arith, long₃))

  first_is : get_or w₄ r 0 ≡ x
  first_is =
      get_or-set_other w₃ b r v 0 (λ e. omega arith) ∙ get_or-set_other w₂ (r + 2) r z 0 (λ e. omega arith)
      ∙ get_or-set_other w₁ (r + 1) r y 0 (λ e. omega arith) ∙ get_or-set_same w r x 0 (omega arith)

  second_is : get_or w₄ (r + 1) 0 ≡ y
  second_is =
      get_or-set_other w₃ b (r + 1) v 0 (λ e. omega arith) ∙ get_or-set_other w₂ (r + 2) (r + 1) z 0 (λ e. omega arith)
      ∙ get_or-set_same w₁ (r + 1) y 0 (omega (arith, long₁))

  third_is : get_or w₄ (r + 2) 0 ≡ z
  third_is = get_or-set_other w₃ b (r + 2) v 0 (λ e. omega arith) ∙ get_or-set_same w₂ (r + 2) z 0 (omega (arith, long₂))

module _ {first second : List ℕ} {shelf : Shelf} {w : List ℕ} (k : Book first second shelf w) (m : shelf.count < shelf.cap)
    (sc : shelf.split ≤ shelf.count) (a e : ℕ) (ae : a ≤ e) (el : e ≤ length second)
    {b r z : ℕ} (eb : b ≡ slot_of shelf.cap (part a e second)) (lb : b < shelf.cap) (er : r ≡ shelf.cap + 3 * shelf.count)
    (ez : z ≡ get_or w b 0) where
  abbrev cap : ℕ
  cap = shelf.cap

  abbrev n : ℕ
  n = shelf.count

  room : r + 2 < length w
  room = omega (arith, k.room)

  under : b < r
  under = omega arith

  abbrev w' : List ℕ
  w' = set (set (set (set w r a) (r + 1) e) (r + 2) z) b (n + 1)

  -- a word of an earlier row
  kept : (j : ℕ) → cap ≤ j → j < cap + 3 * n → get_or w' j 0 ≡ get_or w j 0
  kept j h l =
      other w r b a e z (n + 1) room under j (λ q. omega arith) (λ q. omega arith) (λ q. omega arith) (λ q. omega arith)

  start_kept : (i : ℕ) → i < n → start_at cap w' i ≡ start_at cap w i
  start_kept i l = kept (cap + 3 * i) (omega arith) (omega arith)

  end_kept : (i : ℕ) → i < n → end_at cap w' i ≡ end_at cap w i
  end_kept i l = kept (cap + 3 * i + 1) (omega arith) (omega arith)

  next_kept : (i : ℕ) → i < n → next_at cap w' i ≡ next_at cap w i
  next_kept i l = kept (cap + 3 * i + 2) (omega arith) (omega arith)

  start_new : start_at cap w' n ≡ a
  start_new = ap (λ (j : ℕ). get_or w' j 0) (sym er) ∙ first_is w r b a e z (n + 1) room under

  end_new : end_at cap w' n ≡ e
  end_new = ap (λ (j : ℕ). get_or w' (j + 1) 0) (sym er) ∙ second_is w r b a e z (n + 1) room under

  next_new : next_at cap w' n ≡ z
  next_new = ap (λ (j : ℕ). get_or w' (j + 2) 0) (sym er) ∙ third_is w r b a e z (n + 1) room under

  name_kept : (i : ℕ) → i < n → name_at first second shelf w' i ≡ name_at first second shelf w i
  unfolding name_at
  name_kept i l = rw (start_kept i l, end_kept i l)

  name_new : name_at first second shelf w' n ≡ part a e second
  unfolding name_at file_of
  name_new = rw (start_new, end_new, le-ltb n shelf.split sc)

  new_inside : e ≤ length (file_of first second shelf.split n)
  unfolding file_of
  new_inside = rw (le-ltb n shelf.split sc) el

  slot_new : slot_of cap (name_at first second shelf w' n) ≡ b
  slot_new = ap (slot_of cap) name_new ∙ sym eb

  lasts : (c q : ℕ) → q ≤ n → last_in cap (name_at first second shelf w') c q ≡ last_in cap (name_at first second shelf w) c q
  lasts c q l = last_same cap (name_at first second shelf w') (name_at first second shelf w) c q (λ i g. name_kept i (omega arith))

  head_of : (c : ℕ) → c < cap → get_or w' c 0 ≡ last_in cap (name_at first second shelf w') c (suc n)
  unfolding last_in
  head_of c l =
      split (eqb b c)
      (λ t.
      let p : b ≡ c = eqb-true b c t in
      let f : eqb (slot_of cap (name_at first second shelf w' n)) c ≡ true = eq-eqb _ c (slot_new ∙ p) in
      rw f (ap (λ (j : ℕ). get_or w' j 0) (sym p) ∙ head_is w r b a e z (n + 1) room under ∙ add-one n))
      (λ t.
      let p : b ≡ c → ⊥ = eqb-false b c t in
      let f : eqb (slot_of cap (name_at first second shelf w' n)) c ≡ false = ne_eqb _ c (λ q. p (sym slot_new ∙ q)) in
      rw f
      (other w r b a e z (n + 1) room under c (λ q. omega arith) (λ q. omega arith) (λ q. omega arith) (λ q. p (sym q))
      ∙ k.heads c l ∙ sym (lasts c n (omega arith))))

  next_of : (i : ℕ) → i < n + 1 → next_at cap w' i ≡ last_in cap (name_at first second shelf w') (slot_of cap (name_at first second shelf w' i)) i
  next_of i l =
      split (ltb i n)
      (λ t.
      let g = ltb-true i n t in
      next_kept i g ∙ k.nexts i g
      ∙ ap (λ (c : ℕ). last_in cap (name_at first second shelf w) c i) (ap (slot_of cap) (sym (name_kept i g)))
      ∙ sym (lasts (slot_of cap (name_at first second shelf w' i)) i (omega arith)))
      (λ t.
      let g : i ≡ n = omega (arith, ltb-false i n t) in
      let at : next_at cap w' n ≡ last_in cap (name_at first second shelf w') (slot_of cap (name_at first second shelf w' n)) n =
      next_new ∙ ez ∙ k.heads b lb ∙ sym (lasts b n (omega arith)) ∙ ap (λ (c : ℕ). last_in cap (name_at first second shelf w') c n) (sym slot_new) in
      rw g at)

  bounded : (P : ℕ → ℕ → ℕ → Type 0) → ((i : ℕ) → i < n → P i (start_at cap w i) (end_at cap w i)) → P n a e
      → (i : ℕ) → i < n + 1 → P i (start_at cap w' i) (end_at cap w' i)
  bounded P f g i l =
      split (ltb i n)
      (λ t. let h = ltb-true i n t in rw (start_kept i h, end_kept i h) (f i h))
      (λ t. let h : i ≡ n = omega (arith, ltb-false i n t) in rw (h, start_new, end_new) g)

  pub book_more : Book first second (one_more shelf) w'
  unfolding name_at
  book_more = record {
    few = omega arith;
    room = omega (arith, k.room, long₄ w r b a e z (n + 1) room under);
    ordered = bounded (λ i x y. x ≤ y) k.ordered ae;
    inside = bounded (λ i x y. y ≤ length (file_of first second shelf.split i)) k.inside new_inside;
    heads = λ c l. head_of c l ∙ ap (last_in cap (name_at first second shelf w') c) (sym (add-one n));
    nexts = next_of;
  }

  pub added : Added first second shelf w w' (part a e second)
  added = record {
    new = name_new;
    old = name_kept;
    long = long₄ w r b a e z (n + 1) room under;
    past = behind w r b a e z (n + 1) room under (cap + 3 * (n + 1)) (omega arith);
  }

  pub row_1 : r + 1 < length (set w r a)
  row_1 = omega (arith, room, length-set w r a)

  pub row_2 : r + 2 < length (set (set w r a) (r + 1) e)
  row_2 = omega (arith, room, long₂ w r b a e z (n + 1) room under)

  pub row_b : b < length (set (set (set w r a) (r + 1) e) (r + 2) z)
  row_b = omega (arith, room, long₃ w r b a e z (n + 1) room under)
