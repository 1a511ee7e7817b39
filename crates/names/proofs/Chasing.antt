-- A name looked for: from slot head to the name before in the slot, and on. No name of another slot is the text.
-- Assumes nothing.
use Prim.Native.Nat.{ℕ, zero, suc, ◌+◌, ◌-◌, ◌*◌, ◌≤◌, ◌<◌}
use mathlib.Core.Path.{◌≡◌, refl, sym, ap, ◌∙◌}
use mathlib.Core.Bool.{Bool, true, false}
use Rattle.std.specs.Prelude.{None, Some}
use mathlib.Core.List.{List}
use native.Mathlib.Omega.{arith}
use lib.ListN.{length, get_or}
use lib.Dec.{eqb}
use borrow.Author.Tests.{eqb-true, eqb-false, lt-ltb, le-ltb}
use Rattle.base.proofs.Choice.{split}
use Rattle.csv_text.specs.Part.{part}
use Rattle.csv_text.specs.Texts.{same_text}
use Rattle.csv_text.proofs.Texts.{same_text_lem}
use Rattle.names.specs.Names.{place_among}
use Rattle.names.specs.declared.Shelf.{Shelf}
use Rattle.names.specs.Book.{slot_of, last_in, start_at, end_at, file_of, name_at, Book}
use Rattle.names.specs.Told.{found_as}

module _ (cap : ℕ) (name : ℕ → List ℕ) (t : List ℕ) where
  -- the names behind the last of the slot are others
  skip : (q : ℕ) → place_among name t q ≡ place_among name t (last_in cap name (slot_of cap t) q)
  unfolding place_among last_in
  skip zero = refl
  skip (suc q) =
      split (eqb (slot_of cap (name q)) (slot_of cap t))
      (λ w. rw w)
      (λ w.
      split (same_text t (name q))
      (λ s.
      let p : slot_of cap (name q) ≡ slot_of cap t = ap (slot_of cap) (sym (same_text_lem t (name q) s)) in
      absurd (eqb-false (slot_of cap (name q)) (slot_of cap t) w p))
      (λ s. rw (w, s) (skip q)))

  -- the last of the slot falls there, and is one of them
  last_falls : (q i : ℕ) → last_in cap name (slot_of cap t) q ≡ suc i → (i < q) × (slot_of cap (name i) ≡ slot_of cap t)
  unfolding last_in
  last_falls zero i e = absurd (omega arith)
  last_falls (suc q) i e =
      split (eqb (slot_of cap (name q)) (slot_of cap t))
      (λ w.
      let z : suc q ≡ suc i = rw w at e in
      let y : q ≡ i = omega arith in
      (omega arith, ap (λ (j : ℕ). slot_of cap (name j)) (sym y) ∙ eqb-true (slot_of cap (name q)) (slot_of cap t) w))
      (λ w. let z = last_falls q i (rw w at e) in (omega (arith, z.0), z.1))

  last_below : (q : ℕ) → last_in cap name (slot_of cap t) q ≤ q
  unfolding last_in
  last_below zero = omega arith
  last_below (suc q) =
      split (eqb (slot_of cap (name q)) (slot_of cap t)) (λ w. rw w (omega arith)) (λ w. rw w (omega (arith, last_below q)))

-- p is one more than the number of the next name to look at
pub record Chase (first second : List ℕ) (shelf : Shelf) (w t : List ℕ) (p : ℕ) : Type 0 where
  upto : ℕ
  below : upto ≤ shelf.count
  at : p ≡ last_in shelf.cap (name_at first second shelf w) (slot_of shelf.cap t) upto
  same : place_among (name_at first second shelf w) t shelf.count ≡ place_among (name_at first second shelf w) t upto
  pub few : p ≤ shelf.count

module _ {first second : List ℕ} {shelf : Shelf} {w : List ℕ} (k : Book first second shelf w) where
  -- no room, no name
  pub none_found : (t : List ℕ) → shelf.cap ≡ 0 → None ≡ found_as (place_among (name_at first second shelf w) t shelf.count)
  unfolding place_among found_as
  none_found t h = let z : shelf.count ≡ 0 = omega (arith, k.few) in rw z

  pub chase_start : {t : List ℕ} {p : ℕ} (b : ℕ) → b ≡ slot_of shelf.cap t → b < shelf.cap → p ≡ get_or w b 0
      → Chase first second shelf w t p
  chase_start {t} {p} b q h e =
      let at = e ∙ k.heads b h ∙ ap (λ (i : ℕ). last_in shelf.cap (name_at first second shelf w) i shelf.count) q in
      record {
        upto = shelf.count;
        below = omega arith;
        at = at;
        same = refl;
        few = omega (arith, at, last_below shelf.cap (name_at first second shelf w) t shelf.count);
      }

  -- ---- the words of a name
  module _ {i r : ℕ} (known : i < shelf.count) (q : r ≡ shelf.cap + 3 * i) where
    start_is : get_or w r 0 ≡ start_at shelf.cap w i
    start_is = ap (λ (j : ℕ). get_or w j 0) q

    end_is : get_or w (r + 1) 0 ≡ end_at shelf.cap w i
    end_is = ap (λ (j : ℕ). get_or w (j + 1) 0) q

    pub name_ordered : get_or w r 0 ≤ get_or w (r + 1) 0
    name_ordered = omega (arith, start_is, end_is, k.ordered i known)

    pub name_first : i < shelf.split → get_or w (r + 1) 0 ≤ length first
    unfolding file_of
    name_first h = let z = rw (lt-ltb i shelf.split h) at (k.inside i known) in omega (arith, end_is)

    pub name_second : shelf.split ≤ i → get_or w (r + 1) 0 ≤ length second
    unfolding file_of
    name_second h = let z = rw (le-ltb i shelf.split h) at (k.inside i known) in omega (arith, end_is)

    pub is_first : {y : Bool} (t : List ℕ) → y ≡ same_text t (part (get_or w r 0) (get_or w (r + 1) 0) first) → i < shelf.split
        → y ≡ same_text t (name_at first second shelf w i)
    unfolding name_at file_of
    is_first t e h = e ∙ rw (start_is, end_is, lt-ltb i shelf.split h)

    pub is_second : {y : Bool} (t : List ℕ) → y ≡ same_text t (part (get_or w r 0) (get_or w (r + 1) 0) second) → shelf.split ≤ i
        → y ≡ same_text t (name_at first second shelf w i)
    unfolding name_at file_of
    is_second t e h = e ∙ rw (start_is, end_is, le-ltb i shelf.split h)

module _ {first second : List ℕ} {shelf : Shelf} {w t : List ℕ} {p : ℕ} (k : Book first second shelf w) (c : Chase first second shelf w t p) where
  place : place_among (name_at first second shelf w) t shelf.count ≡ place_among (name_at first second shelf w) t p
  place = c.same ∙ skip shelf.cap (name_at first second shelf w) t c.upto ∙ ap (place_among (name_at first second shelf w) t) (sym c.at)

  pub chase_none : p ≤ 0 → None ≡ found_as (place_among (name_at first second shelf w) t shelf.count)
  unfolding place_among found_as
  chase_none h = let z : p ≡ 0 = omega arith in sym (ap found_as (place ∙ ap (place_among (name_at first second shelf w) t) z))

  module _ {i : ℕ} (h : 0 < p) (e : i ≡ p - 1) where
    next : p ≡ suc i
    next = omega arith

    falls : (i < c.upto) × (slot_of shelf.cap (name_at first second shelf w i) ≡ slot_of shelf.cap t)
    falls = last_falls shelf.cap (name_at first second shelf w) t c.upto i (sym c.at ∙ next)

    pub chase_known : i < shelf.count
    chase_known = omega (arith, falls.0, c.below)

    pub chase_found : {y : Bool} → y ≡ same_text t (name_at first second shelf w i) → y ≡ true
        → Some i ≡ found_as (place_among (name_at first second shelf w) t shelf.count)
    unfolding place_among found_as
    chase_found f g =
        let z : same_text t (name_at first second shelf w i) ≡ true = sym f ∙ g in
        let y : place_among (name_at first second shelf w) t p ≡ suc i = rw (next, z) in
        sym (ap found_as (place ∙ y))

    module _ {r : ℕ} (q : r ≡ shelf.cap + 3 * i) where
      after : {p' : ℕ} → p' ≡ get_or w (r + 2) 0 → p' ≡ last_in shelf.cap (name_at first second shelf w) (slot_of shelf.cap t) i
      after v =
          v ∙ ap (λ (j : ℕ). get_or w (j + 2) 0) q ∙ k.nexts i chase_known
          ∙ ap (λ (b : ℕ). last_in shelf.cap (name_at first second shelf w) b i) falls.1

      pub chase_on : {y : Bool} {p' : ℕ} → y ≡ same_text t (name_at first second shelf w i) → y ≡ false → p' ≡ get_or w (r + 2) 0
          → Chase first second shelf w t p'
      unfolding place_among
      chase_on {y} {p'} f g v =
          let z : same_text t (name_at first second shelf w i) ≡ false = sym f ∙ g in
          let y : place_among (name_at first second shelf w) t p ≡ place_among (name_at first second shelf w) t i = rw (next, z) in
          let at = after v in
          record {
            upto = i;
            below = omega (arith, chase_known);
            at = at;
            same = place ∙ y;
            few = omega (arith, at, last_below shelf.cap (name_at first second shelf w) t i, chase_known);
          }

      pub chase_less : {p' : ℕ} → p' ≡ get_or w (r + 2) 0 → p' < p
      chase_less v = omega (arith, after v, last_below shelf.cap (name_at first second shelf w) t i)
