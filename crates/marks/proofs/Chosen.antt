-- The numbers that a test takes from a range, ascending: which is the first, and where there is none.
-- Assumes nothing.
use mathlib.Core.Path.{◌≡◌, sym, ap, ◌∙◌}
use mathlib.Core.Bool.{Bool, true, false}
use mathlib.Core.List.{[], ◌∷◌}
use Prim.Native.Nat.{ℕ, zero, suc, ◌+◌, ◌-◌, ◌≤◌, ◌<◌}
use native.Mathlib.Nat.{add-zero}
use native.Mathlib.Numerals.{add-one}
use native.Mathlib.Omega.{arith}
use borrow.Author.Tests.{ltb-true, ltb-false}
use lib.Dec.{ltb}
use Rattle.base.proofs.Choice.{split}
use Rattle.marks.specs.Marks.{keep, chosen_from, chosen, first_of}
use Rattle.std.specs.Prelude.{None, Some}

-- f takes none from a up to below b
abbrev pub Clear : (ℕ → Bool) → ℕ → ℕ → Type 0
Clear f a b = (t : ℕ) → a ≤ t → t < b → f t ≡ false

module _ (f : ℕ → Bool) where
  pub clear_empty : (a b : ℕ) → b ≤ a → Clear f a b
  clear_empty a b h t g l = absurd (omega arith)

  pub clear_less : (a b e : ℕ) → e ≤ b → Clear f a b → Clear f a e
  clear_less a b e l p t g h = p t g (omega arith)

  pub clear_join : (a b e : ℕ) → Clear f a b → Clear f b e → Clear f a e
  clear_join a b e p q t g h = split (ltb t b) (λ l. p t g (ltb-true t b l)) (λ l. q t (ltb-false t b l) h)

  -- ---- one number at a time
  pub chosen_end : (from limit : ℕ) → limit ≤ from → chosen f from limit ≡ []
  unfolding chosen chosen_from
  chosen_end from limit h = let c : limit - from ≡ 0 = omega arith in rw c

  pub chosen_step : (from limit : ℕ) → from < limit
      → chosen f from limit ≡ keep (f from) from (chosen f (from + 1) limit)
  unfolding chosen chosen_from
  chosen_step from limit h = let c : limit - from ≡ suc (limit - (from + 1)) = omega arith in rw (c, add-one)

  -- ---- the first d are not taken
  pub chosen_skip : (d from limit : ℕ) → from + d ≤ limit → Clear f from (from + d)
      → chosen f from limit ≡ chosen f (from + d) limit
  chosen_skip zero from limit h c = rw add-zero
  chosen_skip (suc d) from limit h c =
      let over : from + 1 + d ≡ from + suc d = omega arith in
      let out : f from ≡ false = c from (omega arith) (omega arith) in
      chosen_step from limit (omega arith)
      ∙ ap (λ (b : Bool). keep b from (chosen f (from + 1) limit)) out
      ∙ chosen_skip d (from + 1) limit (omega arith) (λ t g l. c t (omega arith) (omega arith))
      ∙ ap (λ (s : ℕ). chosen f s limit) over

  -- ---- the first one that is taken, or none
  module _ (from limit : ℕ) where
    pub chosen_none : Clear f from limit → chosen f from limit ≡ []
    chosen_none c =
        split (ltb from limit)
        (λ l.
        let l' = ltb-true from limit l in
        let d = limit - from in
        chosen_skip d from limit (omega arith) (clear_less from limit (from + d) (omega arith) c)
        ∙ chosen_end (from + d) limit (omega arith))
        (λ l. chosen_end from limit (ltb-false from limit l))

    pub chosen_first : (s : ℕ) → from ≤ s → s < limit → Clear f from s → f s ≡ true
        → chosen f from limit ≡ s ∷ chosen f (s + 1) limit
    chosen_first s g h c e =
        let there : from + (s - from) ≡ s = omega arith in
        chosen_skip (s - from) from limit (omega arith) (clear_less from s (from + (s - from)) (omega arith) c)
        ∙ ap (λ (x : ℕ). chosen f x limit) there
        ∙ chosen_step s limit h
        ∙ ap (λ (b : Bool). keep b s (chosen f (s + 1) limit)) e

    pub first_none : Clear f from limit → None ≡ first_of (chosen f from limit)
    first_none c = sym (ap first_of (chosen_none c))

    pub first_at : (s : ℕ) → from ≤ s → s < limit → Clear f from s → f s ≡ true → Some s ≡ first_of (chosen f from limit)
    first_at s g h c e = sym (ap first_of (chosen_first s g h c e))
