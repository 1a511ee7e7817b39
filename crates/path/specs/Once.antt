-- Where each leg of a journey is put, and how often a byte is: "Write each leg once. For a departure query the legs come out last first ..
-- Count first, then put every leg at its final place." (document 02)
-- Legs gs stand here as a search finds them: a departure search the last leg first, an arrival search the first (`in_order` of `model`).
use Rattle.std.specs.Prelude.{ℕ, ◌+◌, ◌≤◌, cond, ◌&&◌, List, [], ◌∷◌, length, leb, ltb}
use Rattle.base.specs.Put.{with_bytes}
use Rattle.model.specs.declared.Direction.{Direction}
use Rattle.model.specs.declared.Direction.TheVariants.{Departure, Arrival}
use Rattle.model.specs.declared.Leg.{Leg}
use Rattle.model.specs.Bytes.{write_leg, leg_size, size_of}

-- a leg, and the offset of its first byte
pub record Put : Type 0 where
  pub leg : Leg
  pub at : ℕ

-- the leg's bytes are bytes of a buffer of `room` bytes
abbrev pub InBuffer : ℕ → Put → Type 0
InBuffer room p = p.at + length (write_leg p.leg) ≤ room

-- "its final place": behind the bytes that are ridden before it, of those found before it and those left to find
abbrev pub ridden_before : Direction → ℕ → ℕ → ℕ
ridden_before Departure found left = left
ridden_before Arrival found left = found

-- the legs gs with their places, where the legs found before them take `found` bytes
unfoldable pub places_of : Direction → ℕ → List Leg → List Put
places_of d found [] = []
places_of d found (g ∷ gs) = record { leg = g; at = ridden_before d found (size_of gs) } ∷ places_of d (found + leg_size g.kind) gs

-- the buffer b after these puts, one by one
unfoldable pub put_all : List Put → List ℕ → List ℕ
put_all [] b = b
put_all (p ∷ ps) b = put_all ps (with_bytes b p.at (write_leg p.leg))

-- the buffer b after a way back: each leg is put as it is found
unfoldable pub placed_back : Direction → List Leg → List ℕ → List ℕ
placed_back d gs b = put_all (places_of d 0 gs) b

-- 1 where byte i is one of the leg's, else 0
unfoldable pub covers : Put → ℕ → ℕ
covers p i = cond (leb p.at i && ltb i (p.at + length (write_leg p.leg))) 1 0

-- how often byte i is put
unfoldable pub times_put : List Put → ℕ → ℕ
times_put [] i = 0
times_put (p ∷ ps) i = covers p i + times_put ps i

-- puts that go from byte e down: each ends where the one before it begins, and the last begins at byte 0
pub data FromEnd : ℕ → List Put → Type 0 where
  none : FromEnd 0 []
  next : {p : Put} {ps : List Put} → FromEnd p.at ps → FromEnd (p.at + length (write_leg p.leg)) (p ∷ ps)
