-- The stops that a loop over marks visits are in range, and each is past the one before.
use Prim.Native.Nat.{ℕ, ◌+◌, ◌-◌, ◌<◌}
use mathlib.Core.Path.{◌≡◌, sym, ◌∙◌}
use mathlib.Core.Bool.{Bool}
use mathlib.Core.List.{List}
use native.Mathlib.Omega.{arith}
use lib.ListN.{length}
use Rattle.marks.specs.Marks.{marked, first_of}
use Rattle.std.specs.Prelude.{Option, Some}
use Rattle.allocator.specs.Layout.{Sized, flags, mark_of, held_mark_of}
use Rattle.allocator.specs.Marked.{after}
use Rattle.base.proofs.Tab.{tab_length}
use Rattle.allocator.proofs.Visited.{after_from, after_below}

-- as many flags as stops
pub mark_long : (stops routes : ℕ) (ms : List ℕ) → length (mark_of stops routes ms) ≡ stops
unfolding mark_of flags
mark_long stops routes ms = tab_length (marked _) stops 0

pub held_long : (stops routes : ℕ) (ms : List ℕ) → length (held_mark_of stops routes ms) ≡ stops
unfolding held_mark_of flags
held_long stops routes ms = tab_length (marked _) stops 0

-- s is the first stop from i on whose flag is set, a the answer that says so
module _ (i : ℕ) (fs : List Bool) {stops s : ℕ} {a : Option ℕ} (e : a ≡ first_of (after i fs)) (f : a ≡ Some s)
    (long : length fs ≡ stops) where
  pub visit_below : s < stops
  visit_below = omega (arith, after_below i fs (sym f ∙ e))

  pub visit_less : stops - (s + 1) < stops - i
  visit_less = omega (arith, visit_below, after_from i fs (sym f ∙ e))

  module _ {routes : ℕ} {ws ms : List ℕ} (z : Sized stops routes ws ms) where
    pub visit_fits : s < 4_294_967_296
    visit_fits = omega (arith, visit_below, z.words.most_stops)

    pub visit_past : s + 1 < 18_446_744_073_709_551_616
    visit_past = omega (arith, visit_below, z.words.most_stops)
