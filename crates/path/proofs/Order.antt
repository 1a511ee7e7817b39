-- The legs in riding order, as bytes: they take as many as in the order in which they are found; a leg behind all others comes last.
-- Assumes nothing.
use mathlib.Core.Path.{◌≡◌, refl, sym, ◌∙◌}
use mathlib.Core.List.{List, [], ◌∷◌, ◌++◌, append_assoc, append-nil, reverse}
use native.Mathlib.Nat.{add-zero}
use lib.ListN.{length}
use Rattle.model.specs.declared.Direction.{Direction}
use Rattle.model.specs.declared.Direction.TheVariants.{Departure, Arrival}
use Rattle.model.specs.declared.Leg.{Leg}
use Rattle.model.specs.Back.{in_order}
use Rattle.model.specs.Bytes.{write_leg, write, size_of}
use Rattle.model.proofs.ReadBack.{size_is}
use Rattle.model.proofs.Reversed.{reverse_size}

pub write_last : (gs : List Leg) (g : Leg) → write (gs ++ g ∷ []) ≡ write gs ++ write_leg g
unfolding write
write_last [] g = append-nil (write_leg g)
write_last (h ∷ gs) g = rw (write_last gs g) (sym (append_assoc (write_leg h) (write gs) (write_leg g)))

pub order_size : (d : Direction) (gs : List Leg) → length (write (in_order d gs)) ≡ size_of gs
unfolding in_order size_of
order_size Departure gs = size_is (reverse gs) ∙ reverse_size gs [] ∙ add-zero (size_of gs)
order_size Arrival gs = size_is gs

pub order_none : (d : Direction) → write (in_order d []) ≡ []
unfolding in_order write
order_none Departure = refl
order_none Arrival = refl
