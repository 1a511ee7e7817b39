-- N1's journey put leg by leg, by computation: where each leg goes, what the buffer then holds, and how often its bytes are put. The same
-- legs as an arrival search would find them go to the same places, in the other order.
use mathlib.Core.Path.{◌≡◌, refl}
use mathlib.Core.List.{[], ◌∷◌, ◌++◌, map}
use lib.ListN.{replicate}
use Rattle.base.specs.Put.{with_bytes}
use Rattle.model.specs.declared.Direction.TheVariants.{Departure, Arrival}
use Rattle.model.specs.declared.Leg.{Leg}
use Rattle.model.specs.declared.LegType.TheVariants.{Transit, Transfer}
use Rattle.model.specs.Bytes.{u32, kind_byte, trip_field, write_leg, write, leg_size, size_of}
use Rattle.path.specs.Once.{places_of, put_all, placed_back, covers, times_put}

-- document 01's "ride 0 2 0 100 300, transfer 2 3 - 300 330, ride 3 4 2 350 450"
unfoldable pub first : Leg
first = record { from = 0; to = 2; departure = record { 0 = 100 }; arrival = record { 0 = 300 }; kind = Transit 0 }

unfoldable pub second : Leg
second = record { from = 2; to = 3; departure = record { 0 = 300 }; arrival = record { 0 = 330 }; kind = Transfer }

unfoldable pub third : Leg
third = record { from = 3; to = 4; departure = record { 0 = 350 }; arrival = record { 0 = 450 }; kind = Transit 2 }

-- as a departure search finds them: the last ride at byte 38, the transfer at 21, the first ride at 0
pub departure_places : places_of Departure 0 (third ∷ second ∷ first ∷ [])
    ≡ record { leg = third; at = 38 } ∷ record { leg = second; at = 21 } ∷ record { leg = first; at = 0 } ∷ []
unfolding first second third places_of size_of leg_size
departure_places = refl

-- as an arrival search finds them
pub arrival_places : places_of Arrival 0 (first ∷ second ∷ third ∷ [])
    ≡ record { leg = first; at = 0 } ∷ record { leg = second; at = 21 } ∷ record { leg = third; at = 38 } ∷ []
unfolding first second third places_of size_of leg_size
arrival_places = refl

-- a buffer of 61 bytes, all of them 7: the journey's 59, and two 7 behind it
pub both_placed :
    placed_back Departure (third ∷ second ∷ first ∷ []) (replicate 61 7)
    ∷ placed_back Arrival (first ∷ second ∷ third ∷ []) (replicate 61 7)
    ∷ []
    ≡ (write (first ∷ second ∷ third ∷ []) ++ 7 ∷ 7 ∷ [])
    ∷ (write (first ∷ second ∷ third ∷ []) ++ 7 ∷ 7 ∷ [])
    ∷ []
unfolding first second third placed_back places_of put_all size_of leg_size with_bytes write write_leg kind_byte trip_field u32
both_placed = refl

-- the first byte and the last of each leg, and the two behind the journey: once each, and never
pub counted : map (times_put (places_of Departure 0 (third ∷ second ∷ first ∷ []))) (0 ∷ 20 ∷ 21 ∷ 37 ∷ 38 ∷ 58 ∷ 59 ∷ 60 ∷ [])
    ≡ 1 ∷ 1 ∷ 1 ∷ 1 ∷ 1 ∷ 1 ∷ 0 ∷ 0 ∷ []
unfolding first second third places_of size_of leg_size times_put covers write_leg kind_byte trip_field u32
counted = refl
