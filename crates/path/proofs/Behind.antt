-- What stands behind the leg that a stop was reached by: the rest of the way back, or nothing.
-- Assumes nothing.
use Prim.Native.Nat.{ℕ, ◌+◌, ◌*◌, ◌≤◌, ◌<◌}
use mathlib.Core.Path.{◌≡◌, refl, ap, ◌∙◌}
use mathlib.Core.List.{List, [], ◌∷◌}
use Rattle.std.specs.Prelude.{Option, None, Some}
use native.Mathlib.Omega.{arith}
use lib.ListN.{length, get_or}
use Rattle.model.specs.declared.Direction.{Direction}
use Rattle.model.specs.declared.Leg.{Leg}
use Rattle.model.specs.Limits.{MOST_ROUNDS}
use Rattle.model.specs.Back.{near, back, Way, ends, leads}
use Rattle.model.specs.Bytes.{leg_size, size_of}
use Rattle.model.proofs.Way.{way_is, onward_le}
use Rattle.path.specs.declared.Step.{Step}
use Rattle.path.specs.Step.{step_of}
use Rattle.path.specs.Traced.{Traced}
use Rattle.path.proofs.Steps.{step_done, step_on}

module _ {d : Direction} {stops : ℕ} {w : List (Option Leg)} where
  first : {k s : ℕ} {gs : List Leg} → Way d stops w k s gs → s < stops
  first (ends i e o) = i
  first (leads i e o b) = i

-- the way back from stop s in round k is the leg g, and behind it where r leads
pub data Behind (d : Direction) (stops : ℕ) (w : List (Option Leg)) (k s : ℕ) (g : Leg) (r : Option Step) : Type 0 where
  last : None ≡ r → back d stops w stops k s ≡ g ∷ [] → Behind d stops w k s g r
  on : (j : ℕ) → Some (record { round = j; stop = near d g }) ≡ r → j ≤ k → Traced d stops w j (near d g)
      → back d stops w stops k s ≡ g ∷ back d stops w stops j (near d g) → Behind d stops w k s g r

module _ (d : Direction) (stops : ℕ) (w : List (Option Leg)) where
  behind : {k s : ℕ} {g : Leg} {gs : List Leg} → Way d stops w k s gs → length gs ≤ stops → get_or w (k * stops + s) None ≡ Some g
      → Behind d stops w k s g (step_of d k g)
  behind {k} {g = g} (ends {g = h} i e o) l q =
      let x : h ≡ g = cc in
      last (step_done d k g (rw (← x) o)) (way_is d stops w (ends i e o) stops l ∙ ap (λ y. y ∷ []) x)
  behind {k} {g = g} (leads {j = j} {g = h} {gs = gs} i e o b) l q =
      let x : h ≡ g = cc in
      let y : Way d stops w j (near d g) gs = rw (← x) b in
      let a = way_is d stops w y stops (omega arith) in
      on j
      (step_on d k g refl (rw (← x) o))
      (onward_le h.kind k j o)
      (record { legs = gs; way = y; short = omega arith })
      (way_is d stops w (leads i e o b) stops l ∙ rw (a, x))

-- ---- as a loop asks
module _ {d : Direction} {stops : ℕ} {w : List (Option Leg)} {k s : ℕ} (t : Traced d stops w k s) where
  pub stop_known : s < stops
  stop_known = first t.way

  module _ {p : Option Leg} (e : p ≡ get_or w (k * stops + s) None) where
    module _ {g : Leg} (q : p ≡ Some g) where
      known : Behind d stops w k s g (step_of d k g)
      known = behind d stops w t.way t.short cc

      -- the bytes left are enough for the leg
      pub first_size : leg_size g.kind ≤ size_of (back d stops w stops k s)
      unfolding size_of
      first_size = go known
        where
          go : Behind d stops w k s g (step_of d k g) → leg_size g.kind ≤ size_of (back d stops w stops k s)
          go (last a b) = rw b (omega arith)
          go (on j a i b c) = rw c (omega arith)

      module _ {r : Option Step} (f : r ≡ step_of d k g) where
        then : Behind d stops w k s g r
        then = rw f known

        pub at_end : r ≡ None → back d stops w stops k s ≡ g ∷ []
        at_end z = go then
          where
            go : Behind d stops w k s g r → back d stops w stops k s ≡ g ∷ []
            go (last a b) = b
            go (on j a i b c) = cc

        module _ {v : Step} (z : r ≡ Some v) where
          go_on : {C : Type 0} → (v.round ≤ k → Traced d stops w v.round v.stop
              → back d stops w stops k s ≡ g ∷ back d stops w stops v.round v.stop → C) → C
          go_on {C} h = go then
            where
              go : Behind d stops w k s g r → C
              go (last a b) = cc
              go (on i a l b c) =
                  let x : v ≡ record { round = i; stop = near d g } = cc in
                  rw x at h l b c

          pub step_traced : Traced d stops w v.round v.stop
          step_traced = go_on (λ a b c. b)

          pub step_early : k < MOST_ROUNDS → v.round < MOST_ROUNDS
          step_early h = go_on (λ a b c. omega arith)

          pub step_back : back d stops w stops k s ≡ g ∷ back d stops w stops v.round v.stop
          step_back = go_on (λ a b c. c)

          pub fewer : length (back d stops w stops v.round v.stop) < length (back d stops w stops k s)
          fewer = rw step_back (omega arith)
