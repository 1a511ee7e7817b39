-- Counting the bytes: those counted and those that the rest takes are those of the whole way back.
-- Assumes nothing.
use Prim.Native.Nat.{ℕ, ◌+◌, ◌*◌, ◌≤◌, ◌<◌}
use mathlib.Core.Path.{◌≡◌, ap}
use mathlib.Core.List.{List, [], ◌∷◌}
use Rattle.std.specs.Prelude.{Option, None, Some}
use native.Mathlib.Omega.{arith}
use native.Mathlib.Nat.{zero-add}
use lib.ListN.{length, get_or}
use Rattle.model.specs.declared.Direction.{Direction}
use Rattle.model.specs.declared.Leg.{Leg}
use Rattle.model.specs.declared.LegType.{LegType}
use Rattle.model.specs.declared.LegType.TheVariants.{Transit, Transfer, Walk}
use Rattle.model.specs.Limits.{MOST_ROUNDS}
use Rattle.model.specs.Back.{back}
use Rattle.model.specs.Bytes.{leg_size, size_of}
use Rattle.model.proofs.Way.{way_is}
use Rattle.allocator.specs.Layout.{Words}
use Rattle.path.specs.declared.Step.{Step}
use Rattle.path.specs.Step.{step_of}
use Rattle.path.specs.Traced.{Traced}
use Rattle.path.proofs.Behind.{first_size, step_traced, step_early, step_back, at_end}

most_size : (c : LegType) → leg_size c ≤ 21
unfolding leg_size
most_size (Transit v) = omega arith
most_size Transfer = omega arith
most_size Walk = omega arith

legs_size : (gs : List Leg) → size_of gs ≤ 21 * length gs
unfolding size_of
legs_size [] = omega arith
legs_size (g ∷ gs) = omega (arith, most_size g.kind, legs_size gs)

pub record Counted (d : Direction) (stops : ℕ) (w : List (Option Leg)) (k₀ s₀ k s size : ℕ) : Type 0 where
  pub traced : Traced d stops w k s
  pub early : k < MOST_ROUNDS
  pub small : size_of (back d stops w stops k₀ s₀) ≤ 86_016
  pub rest : size + size_of (back d stops w stops k s) ≡ size_of (back d stops w stops k₀ s₀)

pub counted_none : {d : Direction} {stops routes : ℕ} {ws : List ℕ} {w : List (Option Leg)} {k s : ℕ}
    → Words stops routes ws → Traced d stops w k s → k < MOST_ROUNDS → Counted d stops w k s k s 0
counted_none {d} {stops} {w = w} h t l =
    let e = way_is d stops w t.way stops t.short in
    record {
      traced = t;
      early = l;
      small = rw e (omega (arith, legs_size t.legs, t.short, h.most_stops));
      rest = zero-add _;
    }

module _ {d : Direction} {stops : ℕ} {w : List (Option Leg)} {k₀ s₀ k s size : ℕ} (h : Counted d stops w k₀ s₀ k s size)
    {p : Option Leg} (e : p ≡ get_or w (k * stops + s) None) {g : Leg} (q : p ≡ Some g)
    {a : ℕ} (l : a ≡ leg_size g.kind) where
  pub size_fits : size + a < 18_446_744_073_709_551_616
  size_fits = omega (arith, h.rest, h.small, first_size h.traced e q)

  module _ {r : Option Step} (f : r ≡ step_of d k g) where
    pub counted_on : {v : Step} → r ≡ Some v → Counted d stops w k₀ s₀ v.round v.stop (size + a)
    unfolding size_of
    counted_on {v} z =
        let rest = back d stops w stops v.round v.stop in
        let b : size_of (back d stops w stops k s) ≡ leg_size g.kind + size_of rest =
        ap size_of (step_back h.traced e q f z) in
        record {
          traced = step_traced h.traced e q f z;
          early = step_early h.traced e q f z h.early;
          small = h.small;
          rest = omega (arith, h.rest, b);
        }

    pub counted_all : r ≡ None → size + a ≡ size_of (back d stops w stops k₀ s₀)
    unfolding size_of
    counted_all z =
        let b : size_of (back d stops w stops k s) ≡ leg_size g.kind + 0 = ap size_of (at_end h.traced e q f z) in
        omega (arith, h.rest, b)
