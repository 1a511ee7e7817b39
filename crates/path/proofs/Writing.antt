-- Writing the journey: the puts that are left, from the buffer as it is, lead where all the puts of the way back lead.
-- Assumes nothing.
use Prim.Native.Nat.{ℕ, ◌+◌, ◌-◌, ◌*◌, ◌≤◌, ◌<◌}
use mathlib.Core.Path.{◌≡◌, refl, sym, ap, ◌∙◌}
use mathlib.Core.List.{List, [], ◌∷◌}
use Rattle.std.specs.Prelude.{Option, None, Some}
use native.Mathlib.Omega.{arith}
use lib.ListN.{length, get_or}
use Rattle.model.specs.declared.Direction.{Direction}
use Rattle.model.specs.declared.Direction.TheVariants.{Departure, Arrival}
use Rattle.model.specs.declared.Leg.{Leg}
use Rattle.model.specs.Limits.{MOST_ROUNDS}
use Rattle.model.specs.Back.{back}
use Rattle.model.specs.Bytes.{write_leg, leg_size, size_of}
use Rattle.model.proofs.ReadBack.{leg_length}
use Rattle.allocator.specs.Layout.{Words}
use Rattle.base.specs.Put.{with_bytes}
use Rattle.base.proofs.Put.{put_length}
use Rattle.path.specs.declared.Step.{Step}
use Rattle.path.specs.Step.{step_of}
use Rattle.path.specs.Traced.{Traced}
use Rattle.path.specs.Once.{ridden_before, places_of, put_all, placed_back}
use Rattle.path.proofs.Behind.{first_size, step_back, at_end}
use Rattle.path.proofs.Counted.{Counted, counted_none, counted_on, size_fits}

-- the way back, of `size` bytes, began at stop s₀ in round k₀, with b₀ in the buffer; now it is at stop s in round k, the legs found
-- take `found` bytes, and b is in the buffer
pub record Writing (d : Direction) (stops : ℕ) (w : List (Option Leg)) (k₀ s₀ size : ℕ) (b₀ : List ℕ) (k s found : ℕ)
    (b : List ℕ) : Type 0 where
  pub counted : Counted d stops w k₀ s₀ k s found
  pub whole : size ≡ size_of (back d stops w stops k₀ s₀)
  pub room : size ≤ length b₀
  pub same : length b ≡ length b₀
  pub rest : put_all (places_of d found (back d stops w stops k s)) b ≡ placed_back d (back d stops w stops k₀ s₀) b₀

pub writing_none : {d : Direction} {stops routes : ℕ} {ws : List ℕ} {w : List (Option Leg)} {k s size : ℕ} {b : List ℕ}
    → Words stops routes ws → Traced d stops w k s → k < MOST_ROUNDS → size ≡ size_of (back d stops w stops k s) → size ≤ length b
    → Writing d stops w k s size b k s 0 b
unfolding placed_back
writing_none o t l e h = record { counted = counted_none o t l; whole = e; room = h; same = refl; rest = refl }

-- a leg's place lies within the journey
leg_within : (d : Direction) (found left size n : ℕ) → found + n + left ≡ size → ridden_before d found left + n ≤ size
leg_within Departure found left size n h = omega arith
leg_within Arrival found left size n h = omega arith

module _ {d : Direction} {stops : ℕ} {w : List (Option Leg)} {k₀ s₀ size : ℕ} {b₀ : List ℕ} {k s found : ℕ} {b : List ℕ}
    (h : Writing d stops w k₀ s₀ size b₀ k s found b)
    {p : Option Leg} (i : p ≡ get_or w (k * stops + s) None) {g : Leg} (q : p ≡ Some g)
    {a : ℕ} (v : a ≡ leg_size g.kind) where
  pub found_fits : found + a < 18_446_744_073_709_551_616
  found_fits = size_fits h.counted i q v

  pub with_within : found + a ≤ size
  with_within = omega (arith, v, h.whole, h.counted.rest, first_size h.counted.traced i q)

  module _ {at : ℕ} (e : at ≡ ridden_before d found (size - (found + a))) where
    pub leg_fits : at + leg_size g.kind ≤ length b
    leg_fits =
        let n = leg_size g.kind in
        let left = size - (found + a) in
        omega (arith, e, h.same, h.room, leg_within d found left size n (omega (arith, v, with_within)))

    module _ {y : List ℕ} (x : y ≡ with_bytes b at (write_leg g)) where
      -- the leg is put to its place, and gs are left
      module _ (gs : List Leg) (c : back d stops w stops k s ≡ g ∷ gs) where
        placed : at ≡ ridden_before d found (size_of gs)
        unfolding size_of
        placed =
            let t : size_of (back d stops w stops k s) ≡ leg_size g.kind + size_of gs = ap size_of c in
            let u : size - (found + a) ≡ size_of gs = omega (arith, v, t, h.whole, h.counted.rest) in
            e ∙ ap (ridden_before d found) u

        as_long : length y ≡ length b₀
        as_long = rw x (put_length b at (write_leg g) (omega (arith, leg_fits, leg_length g))) ∙ h.same

        leads : put_all (places_of d (found + a) gs) y ≡ placed_back d (back d stops w stops k₀ s₀) b₀
        unfolding places_of put_all
        leads = rw (x, v, placed) refl ∙ ap (λ l. put_all (places_of d found l) b) (sym c) ∙ h.rest

      -- behind it the way back goes on or ends
      module _ {r : Option Step} (f : r ≡ step_of d k g) where
        pub put_on : {n : Step} → r ≡ Some n → Writing d stops w k₀ s₀ size b₀ n.round n.stop (found + a) y
        put_on o =
            let c = step_back h.counted.traced i q f o in
            record {
              counted = counted_on h.counted i q v f o;
              whole = h.whole;
              room = h.room;
              same = as_long _ c;
              rest = leads _ c;
            }

        pub put_all_lem : r ≡ None → y ≡ placed_back d (back d stops w stops k₀ s₀) b₀
        unfolding places_of put_all
        put_all_lem o = leads [] (at_end h.counted.traced i q f o)
