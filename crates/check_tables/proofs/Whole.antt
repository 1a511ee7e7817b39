-- The whole check: its number where each test stops it, and that the number says what document 01 has it say.
use Prim.Native.Nat.{ℕ, zero, suc, ◌≤◌}
use mathlib.Core.Path.{◌≡◌, refl, sym, subst, ◌∙◌}
use mathlib.Core.Bool.{Bool, true, false, true≢false}
use mathlib.Core.Logic.{◌↔◌}
use mathlib.Core.List.{List}
use native.Mathlib.Omega.{arith}
use Rattle.base.proofs.Choice.{split}
use Rattle.repository.specs.NetOf.{net_of}
use Rattle.repository.specs.Laid.{laid, Laid}
use Rattle.repository.specs.Listed.{well_listed}
use Rattle.repository.specs.Checked.{timed, ordered, measured, check_of}
use Rattle.repository.specs.Accepted.{Listed, Accepted}
use Rattle.check_shape.proofs.Shown.{laid_shown}
use Rattle.check_shape.proofs.Passed.{laid_so}
use Rattle.check_tables.specs.Says.{Says}
use Rattle.check_times.proofs.Shown.{timed_shown, timed_so, ordered_shown, ordered_so}
use Rattle.check_tables.proofs.Shown.{measured_shown, measured_so}
use Rattle.check_listing.proofs.Shown.{listed_shown}
use Rattle.check_listing.proofs.Kept.{listed_so}

-- a test that does not pass fails
not_passed : (b : Bool) → (b ≡ true → ⊥) → b ≡ false
not_passed true h = absurd (h refl)
not_passed false h = refl

failed_not : {b : Bool} → b ≡ false → b ≡ true → ⊥
failed_not e t = true≢false (sym t ∙ e)

-- what the code knows once a test has passed
module _ (w : List ℕ) {b : Bool} where
  pub laid_known : b ≡ laid w → b ≡ true → Laid w
  laid_known e t = laid_shown (sym e ∙ t)

  pub lists_known : {c : Bool} → b ≡ laid w → b ≡ true → c ≡ well_listed w → c ≡ true → Listed w
  lists_known e t f u = listed_shown (laid_known e t) (sym f ∙ u)

-- the number, by the test that fails first
module _ (w : List ℕ) {a : Bool} (ea : a ≡ laid w) where
  pub number_1 : a ≡ false → 1 ≡ check_of w
  unfolding check_of
  number_1 t = rw (← ea, t)

  module _ (ta : a ≡ true) {b : Bool} (eb : b ≡ well_listed w) where
    pub number_2 : b ≡ false → 2 ≡ check_of w
    unfolding check_of
    number_2 t = rw (← ea, ta, ← eb, t)

    module _ (tb : b ≡ true) {c : Bool} (ec : c ≡ timed (net_of w)) where
      pub number_3 : c ≡ false → 3 ≡ check_of w
      unfolding check_of
      number_3 t = rw (← ea, ta, ← eb, tb, ← ec, t)

      module _ (tc : c ≡ true) {d : Bool} (ed : d ≡ ordered (net_of w)) where
        pub number_4 : d ≡ false → 4 ≡ check_of w
        unfolding check_of
        number_4 t = rw (← ea, ta, ← eb, tb, ← ec, tc, ← ed, t)

        module _ (td : d ≡ true) {e : Bool} (ee : e ≡ measured w) where
          pub number_5 : e ≡ false → 5 ≡ check_of w
          unfolding check_of
          number_5 t = rw (← ea, ta, ← eb, tb, ← ec, tc, ← ed, td, ← ee, t)

          pub number_0 : e ≡ true → 0 ≡ check_of w
          unfolding check_of
          number_0 t = rw (← ea, ta, ← eb, tb, ← ec, tc, ← ed, td, ← ee, t)

-- the number says what document 01 has it say
said : (w : List ℕ) → Says (check_of w) w
unfolding check_of
said w =
    split (laid w)
    (λ ta.
    let l = laid_shown ta in
    split (well_listed w)
    (λ tb.
    let k = listed_shown l tb in
    split (timed (net_of w))
    (λ tc.
    let t = timed_shown (net_of w) tc in
    split (ordered (net_of w))
    (λ td.
    let o = ordered_shown (net_of w) td in
    split (measured w)
    (λ te.
    rw (ta, tb, tc, td, te) (record { laid = l; listed = k; timed = t; ordered = o; measured = measured_shown w te }))
    (λ te. rw (ta, tb, tc, td, te) (l, k, t, o, λ h. failed_not te (measured_so w h))))
    (λ td. rw (ta, tb, tc, td) (l, k, t, λ h. failed_not td (ordered_so (net_of w) h))))
    (λ tc. rw (ta, tb, tc) (l, k, λ h. failed_not tc (timed_so (net_of w) h))))
    (λ tb. rw (ta, tb) (l, λ h. failed_not tb (listed_so l h))))
    (λ ta. rw ta (λ h. failed_not ta (laid_so h)))

given : (k : ℕ) (w : List ℕ) → Says k w → k ≡ check_of w
given zero w h =
    number_0 w refl (laid_so h.laid) refl (listed_so h.laid h.listed) refl (timed_so (net_of w) h.timed) refl
    (ordered_so (net_of w) h.ordered) refl (measured_so w h.measured)
given (suc zero) w h = number_1 w refl (not_passed (laid w) (λ t. h (laid_shown t)))
given (suc (suc zero)) w (l, h) = number_2 w refl (laid_so l) refl (not_passed (well_listed w) (λ t. h (listed_shown l t)))
given (suc (suc (suc zero))) w (l, k, h) =
    number_3 w refl (laid_so l) refl (listed_so l k) refl
    (not_passed (timed (net_of w)) (λ t. h (timed_shown (net_of w) t)))
given (suc (suc (suc (suc zero)))) w (l, k, t, h) =
    number_4 w refl (laid_so l) refl (listed_so l k) refl (timed_so (net_of w) t) refl
    (not_passed (ordered (net_of w)) (λ u. h (ordered_shown (net_of w) u)))
given (suc (suc (suc (suc (suc zero))))) w (l, k, t, o, h) =
    number_5 w refl (laid_so l) refl (listed_so l k) refl (timed_so (net_of w) t) refl (ordered_so (net_of w) o) refl
    (not_passed (measured w) (λ u. h (measured_shown w u)))
given (suc (suc (suc (suc (suc (suc _)))))) w h = elim h [ ]

pub check_is : (k : ℕ) (w : List ℕ) → (check_of w ≡ k) ↔ Says k w
check_is k w = (λ e. subst (λ (j : ℕ). Says j w) e (said w), λ h. sym (given k w h))

pub accepted_is : (w : List ℕ) → (check_of w ≡ 0) ↔ Accepted w
accepted_is w = check_is 0 w

-- as a caller of `check` knows it
pub zero_accepted : (w : List ℕ) {c : ℕ} → c ≡ check_of w → c ≡ 0 → Accepted w
zero_accepted w e z = (accepted_is w).0 (sym e ∙ z)

-- it has no other number
pub check_most : (w : List ℕ) → check_of w ≤ 5
check_most w = go (check_of w) ((check_is (check_of w) w).0 refl)
  where
    go : (k : ℕ) → Says k w → k ≤ 5
    go zero h = omega arith
    go (suc zero) h = omega arith
    go (suc (suc zero)) h = omega arith
    go (suc (suc (suc zero))) h = omega arith
    go (suc (suc (suc (suc zero)))) h = omega arith
    go (suc (suc (suc (suc (suc zero))))) h = omega arith
    go (suc (suc (suc (suc (suc (suc k)))))) h = absurd h
