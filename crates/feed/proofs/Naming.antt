-- A name in a list of names: where it stands, or that it stands nowhere; and the list with one more.
-- Assumes nothing.
use Prim.Native.Nat.{ℕ, zero, suc, ◌≤◌, ◌<◌}
use mathlib.Core.Path.{◌≡◌, refl, sym, ap, ◌∙◌}
use mathlib.Core.Bool.{true, false, true≢false, false≢true}
use mathlib.Core.List.{List, [], ◌∷◌, ◌++◌}
use native.Mathlib.Omega.{arith}
use lib.Dec.{eqb, ltb}
use lib.ListN.{length, get_or, length-append, get_or-append}
use lib.Seq.{get_or-append_seam}
use borrow.Author.Tests.{ltb-true, ltb-false, eq-eqb, ne_eqb}
use Rattle.base.proofs.Choice.{split}
use Rattle.csv_text.specs.Texts.{same_text}
use Rattle.columns.specs.Picks.{is_named}
use Rattle.names.specs.Names.{place_among}
use Rattle.csv_text.proofs.Texts.{same_text_lem, same_refl}
use Rattle.feed.specs.Feed.{known_as, named_by, named, number_by, number_of}
use Rattle.feed.specs.Orderly.{seen_after}
use Rattle.feed.specs.Held.{Once, Unnamed}

-- two texts that are not the same
pub same_not : (t u : List ℕ) → same_text t u ≡ false → t ≡ u → ⊥
same_not t u e q = true≢false (sym (same_refl u) ∙ ap (λ (s : List ℕ). same_text s u) (sym q) ∙ e)

-- no less have appeared than before
pub seen_least : (n i : ℕ) → n ≤ seen_after n i
unfolding seen_after
seen_least n i = split (eqb i n) (λ e. rw e (omega arith)) (λ e. rw e (omega arith))

module _ (name : ℕ → List ℕ) (t : List ℕ) where
  place_below : (n i : ℕ) → place_among name t n ≡ suc i → i < n
  unfolding place_among
  place_below zero i e = absurd (omega arith)
  place_below (suc n) i e =
      split (same_text t (name n))
      (λ w. let q : suc n ≡ suc i = rw w at e in omega arith)
      (λ w. let q = place_below n i (rw w at e) in omega arith)

  place_is : (n i : ℕ) → place_among name t n ≡ suc i → name i ≡ t
  unfolding place_among
  place_is zero i e = absurd (omega arith)
  place_is (suc n) i e =
      split (same_text t (name n))
      (λ w.
      let q : suc n ≡ suc i = rw w at e in
      let r : n ≡ i = omega arith in
      ap name (sym r) ∙ sym (same_text_lem t (name n) w))
      (λ w. place_is n i (rw w at e))

  place_none : (n : ℕ) → place_among name t n ≡ 0 → (i : ℕ) → i < n → name i ≡ t → ⊥
  unfolding place_among
  place_none zero e i h q = omega arith
  place_none (suc n) e i h q =
      split (same_text t (name n))
      (λ w. let z : suc n ≡ 0 = rw w at e in omega arith)
      (λ w.
      split (ltb i n)
      (λ v. place_none n (rw w at e) i (ltb-true i n v) q)
      (λ v.
      let r : i ≡ n = omega (arith, ltb-false i n v) in
      same_not t (name n) w (sym q ∙ ap name r)))

module _ (names : List (List ℕ)) (t : List ℕ) where
  pub known_below : (i : ℕ) → known_as names t ≡ suc i → i < length names
  unfolding known_as
  known_below i e = place_below (λ i. get_or names i []) t (length names) i e

  pub known_is : (i : ℕ) → known_as names t ≡ suc i → get_or names i [] ≡ t
  unfolding known_as
  known_is i e = place_is (λ i. get_or names i []) t (length names) i e

  pub known_new : known_as names t ≡ 0 → Unnamed names t
  unfolding known_as
  known_new e = record { nowhere = place_none (λ i. get_or names i []) t (length names) e }

  -- by cases
  pub known_either : {C : Type 0} → ((i : ℕ) → known_as names t ≡ suc i → C) → (known_as names t ≡ 0 → C) → C
  known_either {C} f g = go (known_as names t) refl
    where
      go : (n : ℕ) → known_as names t ≡ n → C
      go zero e = g e
      go (suc i) e = f i e

  -- one more than a place is no more than there are names
  pub known_most : known_as names t ≤ length names
  known_most = known_either (λ i e. let h = known_below i e in rw e (omega arith)) (λ e. rw e (omega arith))

  -- ---- the number of a name
  pub number_least : number_of names t ≤ length names
  unfolding number_of number_by
  number_least = known_either (λ i e. let h = known_below i e in rw e (omega arith)) (λ e. rw e (omega arith))

  pub number_below : number_of names t < length (named names t)
  unfolding number_of number_by named named_by
  number_below =
      known_either
      (λ i e. rw e (known_below i e))
      (λ e. rw e (omega (arith, length-append names (t ∷ []))))

  -- a new name is one more
  pub named_length : seen_after (length names) (number_of names t) ≡ length (named names t)
  unfolding number_of number_by named named_by seen_after
  named_length =
      known_either
      (λ i e. let h = known_below i e in rw (e, ne_eqb i (length names) (λ q. omega arith)))
      (λ e. rw (e, eq-eqb (length names) (length names) refl) (omega (arith, length-append names (t ∷ []))))

  pub named_longer : length names ≤ length (named names t)
  unfolding named named_by
  named_longer = known_either (λ i e. rw e (omega arith)) (λ e. rw e (omega (arith, length-append names (t ∷ []))))

  -- ---- one more name
  pub once_more : Once names → Unnamed names t → Once (names ++ (t ∷ []))
  once_more o u = record { once = go }
    where
      go : (i j : ℕ) → i < length (names ++ (t ∷ [])) → j < length (names ++ (t ∷ [])) → get_or (names ++ (t ∷ [])) i [] ≡ get_or (names ++ (t ∷ [])) j []
          → i ≡ j
      go i j hi hj e =
          let n = length-append names (t ∷ []) in
          split (ltb i (length names))
          (λ v.
          let a = get_or-append names (t ∷ []) [] i (ltb-true i (length names) v) in
          split (ltb j (length names))
          (λ w.
          let b = get_or-append names (t ∷ []) [] j (ltb-true j (length names) w) in
          o.once i j (ltb-true i (length names) v) (ltb-true j (length names) w) (sym a ∙ e ∙ b))
          (λ w.
          let q : j ≡ length names = omega (arith, ltb-false j (length names) w) in
          let b : get_or (names ++ (t ∷ [])) j [] ≡ t = rw q (get_or-append_seam names t [] []) in
          absurd (u.nowhere i (ltb-true i (length names) v) (sym a ∙ e ∙ b))))
          (λ v.
          let p : i ≡ length names = omega (arith, ltb-false i (length names) v) in
          let a : get_or (names ++ (t ∷ [])) i [] ≡ t = rw p (get_or-append_seam names t [] []) in
          split (ltb j (length names))
          (λ w.
          let b = get_or-append names (t ∷ []) [] j (ltb-true j (length names) w) in
          absurd (u.nowhere j (ltb-true j (length names) w) (sym b ∙ sym e ∙ a)))
          (λ w. omega (arith, ltb-false j (length names) w)))

  pub named_once : Once names → Once (named names t)
  unfolding named named_by
  named_once o = known_either (λ i e. rw e o) (λ e. rw e (once_more o (known_new e)))

-- ---- the other search
pub is_named_new : (names : List (List ℕ)) (t : List ℕ) → is_named t names ≡ false → Unnamed names t
unfolding is_named
is_named_new [] t e = record { nowhere = λ i h q. omega arith }
is_named_new (n ∷ names) t e =
    split (same_text n t)
    (λ w. absurd (true≢false (rw w at e)))
    (λ w. record { nowhere = go w (is_named_new names t (rw w at e)) })
  where
    go : same_text n t ≡ false → Unnamed names t → (i : ℕ) → i < suc (length names) → get_or (n ∷ names) i [] ≡ t → ⊥
    go w u zero h q = same_not n t w q
    go w u (suc i) h q = u.nowhere i (omega arith) q

pub is_named_at : (names : List (List ℕ)) (t : List ℕ) → is_named t names ≡ true → (i : ℕ) × (i < length names) × (get_or names i [] ≡ t)
unfolding is_named
is_named_at [] t e = absurd (false≢true e)
is_named_at (n ∷ names) t e =
    split (same_text n t)
    (λ w. (0, omega arith, same_text_lem n t w))
    (λ w. let z = is_named_at names t (rw w at e) in (suc z.0, omega (arith, z.1), z.2))

pub is_named_there : (names : List (List ℕ)) (t : List ℕ) {i : ℕ} → i < length names → get_or names i [] ≡ t → is_named t names ≡ true
is_named_there names t {i} h e =
    split (is_named t names) (λ v. v) (λ v. absurd ((is_named_new names t v).nowhere i h e))

pub is_named_not : (names : List (List ℕ)) (t : List ℕ) → Unnamed names t → is_named t names ≡ false
is_named_not names t u =
    split (is_named t names)
    (λ v. let z = is_named_at names t v in absurd (u.nowhere z.0 z.1 z.2))
    (λ v. v)

-- a list of names stays as it is, or a new one is put behind
pub named_either : {C : Type 0} (names : List (List ℕ)) (t : List ℕ) → (named names t ≡ names → C)
    → (Unnamed names t → named names t ≡ names ++ (t ∷ []) → C) → C
unfolding named named_by
named_either names t old new = known_either names t (λ i e. old (rw e)) (λ e. new (known_new names t e) (rw e))

-- a new one makes it longer
pub new_longer : (names : List (List ℕ)) (t : List ℕ) → Unnamed names t → length names < length (named names t)
unfolding named named_by
new_longer names t u =
    known_either names t
    (λ i e. absurd (u.nowhere i (known_below names t i e) (known_is names t i e)))
    (λ e. rw e (omega (arith, length-append names (t ∷ []))))
