-- Where the trip that a label takes stands in its route's order. It is the trip that the model catches: `place_trip` of proofs/Caught.antt.
use Rattle.std.specs.Prelude.{ℕ, zero, suc, ◌+◌, ◌<◌, Bool, cond, List, ltb, leb}
use Rattle.std.specs.Prelude.{Option, None, Some}
use Rattle.base.specs.First.{first}
use Rattle.model.specs.declared.Direction.{Direction}
use Rattle.model.specs.declared.Direction.TheVariants.{Departure, Arrival}
use Rattle.model.specs.Tables.{Net}
use Rattle.repository.specs.Readable.{Searchable}
use Rattle.repository.specs.NetOf.{net_of}

-- a position of a route of searchable tables; their many facts stand behind a function, so that only who asks for them has them
pub record Along (w : List ℕ) (r p : ℕ) : Type 0 where
  pub known : Unit {0} → Searchable w
  pub route : r < (net_of w).routes
  pub position : p < (net_of w).positions r

-- the trip at place i arrives at position p not before x
unfoldable pub not_before : Net → ℕ → ℕ → ℕ → ℕ → Bool
not_before n r p x i = leb x (n.arrival (n.trip_at r i) p)

-- the place of the first such trip; the number of trips where there is none
unfoldable pub first_not_before : Net → ℕ → ℕ → ℕ → ℕ
first_not_before n r p x = first (not_before n r p x) (n.trips r) 0

-- the trip before a place
unfoldable pub trip_before : ℕ → Option ℕ
trip_before zero = None
trip_before (suc i) = Some i

-- the place of the first trip that arrives at position p not before the label x; in an arrival search of the last that arrives not after it,
-- which stands before the first that arrives a second later
unfoldable pub trip_place : Direction → Net → ℕ → ℕ → ℕ → Option ℕ
trip_place Departure n r p x = cond (ltb (first_not_before n r p x) (n.trips r)) (Some (first_not_before n r p x)) None
trip_place Arrival n r p x = trip_before (first_not_before n r p (x + 1))
