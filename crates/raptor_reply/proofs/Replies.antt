-- The three answers of a search that has run, and what each leaves in the journey buffer.
use Prim.Native.Nat.{ℕ, ◌≤◌, ◌<◌}
use mathlib.Core.Path.{◌≡◌, refl, sym, ap, ◌∙◌}
use mathlib.Core.Bool.{Bool, cond}
use mathlib.Core.List.{List, [], ◌∷◌, ◌++◌}
use Rattle.std.specs.Prelude.{Option, Ok, Err}
use native.Mathlib.Omega.{arith}
use lib.Dec.{leb}
use lib.ListN.{length, drop, length-reverse}
use borrow.Author.Tests.{eq-eqb, ne_eqb, le-leb, lt-leb}
use Rattle.model.specs.declared.Error.{Error}
use Rattle.model.specs.declared.Error.TheVariants.{NoRouteFound, TooLong}
use Rattle.model.specs.declared.Found.{Found}
use Rattle.model.specs.declared.Direction.{Direction}
use Rattle.model.specs.declared.Direction.TheVariants.{Departure, Arrival}
use Rattle.model.specs.declared.Leg.{Leg}
use Rattle.model.specs.declared.Target.{Target}
use Rattle.model.specs.Limits.{MOST_ROUNDS}
use Rattle.model.specs.Back.{back, in_order}
use Rattle.model.specs.Bytes.{write, size_of}
use Rattle.model.specs.Answer.{found, reply_to, reply}
use Rattle.model.specs.Left.{written}
use Rattle.model.proofs.ReadBack.{size_is}
use Rattle.path.specs.Traced.{Traced}
use Rattle.path.proofs.Order.{order_size}
use Rattle.path.proofs.Reached.{some_leg}
use Rattle.raptor_reply.specs.Chosen.{Chosen, legs_back}

-- "10 no chosen stop"
pub none_chosen : (room : ℕ) (aimed : Target) (gs : List Leg) → aimed.time.0 ≡ 0 → Err NoRouteFound ≡ reply room aimed gs
unfolding reply
none_chosen room aimed gs e = ap (λ (b : Bool). cond b (Err NoRouteFound) (reply_to room aimed gs)) (sym (eq-eqb aimed.time.0 0 e))

pub unwritten : (e : Error) (gs : List Leg) (buffer : List ℕ) → buffer ≡ written (Err e) gs buffer
unfolding written
unwritten e gs buffer = refl

ordered_some : (d : Direction) (gs : List Leg) → 0 < length gs → 0 < length (in_order d gs)
unfolding in_order
ordered_some Departure gs h = omega (arith, length-reverse gs)
ordered_some Arrival gs h = h

module _ {d : Direction} {stops : ℕ} {w : List (Option Leg)} {aimed : Target} (c : Chosen d stops w aimed)
    (at : aimed.time.0 ≡ 0 → ⊥) where
  chosen : 0 < aimed.time.0
  chosen = omega (arith, at)

  pub chosen_traced : Traced d stops w aimed.round aimed.stop
  chosen_traced = c.traced chosen

  pub chosen_round : aimed.round < MOST_ROUNDS
  chosen_round = c.in_rounds chosen

  module _ {z : ℕ} (ez : z ≡ size_of (back d stops w stops aimed.round aimed.stop)) where
    legs : List Leg
    legs = legs_back d stops w aimed

    some : 0 < length (legs_back d stops w aimed)
    unfolding legs_back
    some = ordered_some d (back d stops w stops aimed.round aimed.stop) (some_leg chosen_traced)

    size : z ≡ size_of (legs_back d stops w aimed)
    unfolding legs_back
    size = let gs = back d stops w stops aimed.round aimed.stop in ez ∙ sym (order_size d gs) ∙ size_is (in_order d gs)

    to : (room : ℕ) (gs : List Leg) → 0 < length gs → z ≡ size_of gs
        → reply_to room aimed gs ≡ cond (leb z room) (found aimed z) (Err (TooLong z))
    unfolding reply_to
    to room [] h e = absurd (omega arith)
    to room (v ∷ vs) h e = rw e

    replied : (room : ℕ) → reply room aimed (legs_back d stops w aimed)
        ≡ cond (leb z room) (found aimed z) (Err (TooLong z))
    unfolding reply
    replied room = rw (ne_eqb aimed.time.0 0 at) (to room (legs_back d stops w aimed) some size)

    -- "12 journey longer than its buffer"
    pub too_long : (room : ℕ) → room < z → Err (TooLong z) ≡ reply room aimed (legs_back d stops w aimed)
    too_long room h =
        ap (λ (b : Bool). cond b (found aimed z) (Err (TooLong z))) (sym (lt-leb z room h))
        ∙ sym (replied room)

    pub fits : (room : ℕ) → z ≤ room → found aimed z ≡ reply room aimed (legs_back d stops w aimed)
    fits room h =
        ap (λ (b : Bool). cond b (found aimed z) (Err (TooLong z))) (sym (le-leb z room h))
        ∙ sym (replied room)

    -- "On 0 bytes past the journey stay unchanged."
    pub found_written : (f : Found) {after : List ℕ} (before : List ℕ)
        → after ≡ write (in_order d (back d stops w stops aimed.round aimed.stop)) ++ drop z before
        → after ≡ written (Ok f) (legs_back d stops w aimed) before
    unfolding written legs_back
    found_written f before e =
        let gs = back d stops w stops aimed.round aimed.stop in
        e ∙ ap (λ (x : ℕ). write (in_order d gs) ++ drop x before) (ez ∙ sym (order_size d gs))
