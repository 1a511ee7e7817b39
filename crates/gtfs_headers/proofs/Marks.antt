-- The three bytes that mark UTF-8: whether a file begins with them.
-- Assumes nothing.
use Prim.Native.Nat.{ℕ, ◌≤◌}
use mathlib.Core.Path.{◌≡◌, refl, sym, ap, ◌∙◌}
use mathlib.Core.Bool.{Bool, true, false, cond}
use mathlib.Core.List.{List, [], ◌∷◌}
use native.Mathlib.Omega.{arith}
use lib.Dec.{eqb}
use lib.ListN.{length, drop, length-drop}
use borrow.Author.Tests.{eqb-true, eqb-false, eq-eqb, ne_eqb}
use Rattle.base.proofs.Choice.{split}
use Rattle.std.specs.List.{starts_with}
use Rattle.feed.specs.Reading.{without_mark}

eqb_sym : (m n : ℕ) → eqb m n ≡ eqb n m
eqb_sym m n =
    split (eqb n m) (λ t. rw t (eq-eqb m n (sym (eqb-true n m t)))) (λ t. rw t (ne_eqb m n (λ e. eqb-false n m t (sym e))))

-- a file that begins with them, by its first bytes
mark_is : (b : List ℕ) → without_mark b ≡ cond (starts_with eqb b (239 ∷ 187 ∷ 191 ∷ [])) (drop 3 b) b
unfolding without_mark
mark_is [] = refl
mark_is (x ∷ []) = split (eqb x 239) (λ t. rw (eqb_sym 239 x, t)) (λ t. rw (eqb_sym 239 x, t))
mark_is (x ∷ y ∷ []) =
    split (eqb x 239)
    (λ t. split (eqb y 187) (λ u. rw (eqb_sym 239 x, eqb_sym 187 y, t, u)) (λ u. rw (eqb_sym 239 x, eqb_sym 187 y, t, u)))
    (λ t. rw (eqb_sym 239 x, t))
mark_is (x ∷ y ∷ z ∷ b) =
    split (eqb x 239)
    (λ t.
    split (eqb y 187)
    (λ u.
    split (eqb z 191)
    (λ v. rw (eqb_sym 239 x, eqb_sym 187 y, eqb_sym 191 z, t, u, v))
    (λ v. rw (eqb_sym 239 x, eqb_sym 187 y, eqb_sym 191 z, t, u, v)))
    (λ u. rw (eqb_sym 239 x, eqb_sym 187 y, t, u)))
    (λ t. rw (eqb_sym 239 x, t))

module _ (b : List ℕ) {c : Bool} (q : c ≡ starts_with eqb b (239 ∷ 187 ∷ 191 ∷ [])) where
  pub mark_there : c ≡ true → drop 3 b ≡ without_mark b
  mark_there t = sym (mark_is b ∙ rw (sym q ∙ t))

  pub mark_missing : c ≡ false → b ≡ without_mark b
  mark_missing t = sym (mark_is b ∙ rw (sym q ∙ t))

-- what is dropped of a file has one end
pub start_ends : (b : List ℕ) (r r' : ℕ) → r ≤ length b → r' ≤ length b → drop r b ≡ without_mark b → drop r' b ≡ without_mark b → r ≡ r'
start_ends b r r' h h' e e' =
    let l : length (drop r b) ≡ length (drop r' b) = ap length (e ∙ sym e') in
    omega (arith, l, length-drop r b, length-drop r' b, h, h')
