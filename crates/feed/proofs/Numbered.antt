-- Names that are the digits of 0, 1, 2, ..: each has its own number.
-- Assumes nothing.
use Prim.Native.Nat.{ℕ, zero, suc, ◌+◌, ◌-◌, ◌≤◌, ◌<◌}
use mathlib.Core.Path.{◌≡◌, refl, sym, ap, ◌∙◌}
use mathlib.Core.Bool.{true, false, true≢false}
use mathlib.Core.List.{List, [], ◌∷◌, ◌++◌}
use native.Mathlib.Omega.{arith}
use native.Mathlib.Nat.{add-zero, zero-add}
use lib.Dec.{ltb, eqb}
use lib.ListN.{length, get_or}
use borrow.Author.Tests.{eqb-true, eqb-false, eq-eqb, ne_eqb, ltb-true, lt-ltb}
use Rattle.base.specs.Tab.{tab}
use Rattle.base.proofs.Choice.{split}
use Rattle.csv_text.specs.Texts.{same_text}
use Rattle.columns.specs.Picks.{is_named}
use Rattle.numbers.specs.Decimal.{digits}
use Rattle.numbers.proofs.Written.{digits_same}
use Rattle.names.specs.Names.{place_among}
use Rattle.feed.specs.Feed.{known_as, named_by, named, number_by, number_of}
use Rattle.feed.specs.Times.{is_last}
use Rattle.feed.specs.Orderly.{seen_after}

-- ---- a list by its elements
tab_length : {A : Type 0} (f : ℕ → A) (n i : ℕ) → length (tab f n i) ≡ n
unfolding tab
tab_length f zero i = refl
tab_length f (suc n) i = ap suc (tab_length f n (suc i))

tab_at : {A : Type 0} (f : ℕ → A) (d : A) (n i j : ℕ) → j < n → get_or (tab f n i) j d ≡ f (i + j)
unfolding tab
tab_at f d zero i j h = absurd (omega arith)
tab_at f d (suc n) i zero h = ap f (sym (add-zero i))
tab_at f d (suc n) i (suc j) h = tab_at f d n (suc i) j (omega arith) ∙ ap f (let q : suc i + j ≡ i + suc j = omega arith in q)

tab_more : {A : Type 0} (f : ℕ → A) (n i : ℕ) → tab f n i ++ (f (i + n) ∷ []) ≡ tab f (suc n) i
unfolding tab
tab_more f zero i = ap (λ (x : ℕ). f x ∷ []) (add-zero i)
tab_more f (suc n) i =
    let q : i + suc n ≡ suc i + n = omega arith in
    rw q (ap (λ (l : List _). f i ∷ l) (tab_more f n (suc i)))

-- ---- two texts are the same exactly where they are equal
same_self : (t : List ℕ) → same_text t t ≡ true
unfolding same_text
same_self [] = refl
same_self (x ∷ t) = rw (eq-eqb x x refl) (same_self t)

same_equal : (t u : List ℕ) → same_text t u ≡ true → t ≡ u
unfolding same_text
same_equal [] [] e = refl
same_equal [] (y ∷ u) e = absurd (true≢false (sym e))
same_equal (x ∷ t) [] e = absurd (true≢false (sym e))
same_equal (x ∷ t) (y ∷ u) e =
    split (eqb x y)
    (λ w. let q : x ≡ y = eqb-true x y w in let r : t ≡ u = same_equal t u (rw w at e) in cc)
    (λ w. absurd (true≢false (sym (rw w at e))))

abbrev pub Counted : ℕ → Type 0
Counted n = n ≤ 4_294_967_295

same_digits : (a b : ℕ) → Counted a → Counted b → same_text (digits a) (digits b) ≡ eqb a b
same_digits a b h k =
    split (eqb a b)
    (λ w. let q : a ≡ b = eqb-true a b w in rw (w, q) (same_self (digits b)))
    (λ w. split (same_text (digits a) (digits b))
    (λ v. absurd (eqb-false a b w (digits_same a b h k (same_equal (digits a) (digits b) v))))
    (λ v. v ∙ sym w))

-- ---- n of them
unfoldable pub first_names : ℕ → List (List ℕ)
first_names n = tab digits n 0

pub names_length : (n : ℕ) → length (first_names n) ≡ n
unfolding first_names
names_length n = tab_length digits n 0

names_at : (n i : ℕ) → i < n → get_or (first_names n) i [] ≡ digits i
unfolding first_names
names_at n i h = tab_at digits [] n 0 i h ∙ ap digits (zero-add i)

pub names_more : (n : ℕ) → first_names n ++ (digits n ∷ []) ≡ first_names (suc n)
unfolding first_names
names_more n = ap (λ (x : ℕ). tab digits n 0 ++ (digits x ∷ [])) (sym (zero-add n)) ∙ tab_more digits n 0

module _ (n s : ℕ) (c : Counted n) (d : Counted s) where
  name_same : (i : ℕ) → i < n → same_text (digits s) (get_or (first_names n) i []) ≡ eqb s i
  name_same i h = ap (same_text (digits s)) (names_at n i h) ∙ same_digits s i d (omega arith)

  place_none : (m : ℕ) → m ≤ n → m ≤ s → place_among (λ i. get_or (first_names n) i []) (digits s) m ≡ 0
  unfolding place_among
  place_none zero h k = refl
  place_none (suc m) h k =
      let q : same_text (digits s) (get_or (first_names n) m []) ≡ false = name_same m (omega arith) ∙ ne_eqb s m (λ e. omega arith) in
      rw q (place_none m (omega arith) (omega arith))

  place_found : (m : ℕ) → m ≤ n → s < m → place_among (λ i. get_or (first_names n) i []) (digits s) m ≡ suc s
  unfolding place_among
  place_found zero h k = absurd (omega arith)
  place_found (suc m) h k =
      split (eqb s m)
      (λ w. let q : same_text (digits s) (get_or (first_names n) m []) ≡ true = name_same m (omega arith) ∙ w in
      rw q (ap suc (sym (eqb-true s m w))))
      (λ w. let q : same_text (digits s) (get_or (first_names n) m []) ≡ false = name_same m (omega arith) ∙ w in
      let ne = eqb-false s m w in
      rw q (place_found m (omega arith) (omega arith)))

  known_new : s ≡ n → known_as (first_names n) (digits s) ≡ 0
  unfolding known_as
  known_new e = rw (names_length n) (place_none n (omega arith) (omega arith))

  known_old : s < n → known_as (first_names n) (digits s) ≡ suc s
  unfolding known_as
  known_old h = rw (names_length n) (place_found n (omega arith) h)

  -- a name that has appeared or is the next
  module _ (h : s ≤ n) where
    pub number_is : number_of (first_names n) (digits s) ≡ s
    unfolding number_of number_by
    number_is =
        split (eqb s n)
        (λ w. let e = eqb-true s n w in rw (known_new e) (names_length n ∙ sym e))
        (λ w. let e = eqb-false s n w in rw (known_old (omega arith)))

    pub named_is : named (first_names n) (digits s) ≡ first_names (seen_after n s)
    unfolding named named_by seen_after
    named_is =
        split (eqb s n)
        (λ w. let e = eqb-true s n w in rw (known_new e, w) (ap (λ (x : ℕ). first_names n ++ (digits x ∷ [])) e ∙ names_more n))
        (λ w. let e = eqb-false s n w in rw (known_old (omega arith), w))

  -- the last of them, or none
  pub last_is : is_last (first_names n) (digits s) ≡ eqb (suc s) n
  unfolding is_last
  last_is =
      rw (names_length n)
      (split (eqb (suc s) n)
      (λ w.
      let e = eqb-true (suc s) n w in
      let q : same_text (digits s) (get_or (first_names n) (n - 1) []) ≡ true = name_same (n - 1) (omega arith) ∙ eq-eqb s (n - 1) (omega arith) in
      rw (w, q, lt-ltb 0 n (omega arith)))
      (λ w.
      let ne = eqb-false (suc s) n w in
      split (ltb 0 n)
      (λ v.
      let l = ltb-true 0 n v in
      let q : same_text (digits s) (get_or (first_names n) (n - 1) []) ≡ false =
      name_same (n - 1) (omega arith) ∙ ne_eqb s (n - 1) (λ e. ne (omega arith)) in
      rw (w, q, v))
      (λ v. rw (w, v))))

unnamed_from : (v n i : ℕ) → Counted v → i + n ≤ v → is_named (digits v) (tab digits n i) ≡ false
unfolding is_named tab
unnamed_from v zero i c h = refl
unnamed_from v (suc n) i c h =
    let q : same_text (digits i) (digits v) ≡ false = same_digits i v (omega arith) c ∙ ne_eqb i v (λ e. omega arith) in
    rw q (unnamed_from v n (suc i) c (omega arith))

-- the next is not among those before
pub next_unnamed : (n : ℕ) → Counted n → is_named (digits n) (first_names n) ≡ false
unfolding first_names
next_unnamed n c = unnamed_from n n 0 c (omega arith)
