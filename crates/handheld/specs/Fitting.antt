-- Whether a leg fits the tables: how a ride and a footpath are looked for.
use Rattle.std.specs.Prelude.{ℕ, suc, ◌-◌, Bool, false, cond, ◌&&◌, List, ltb, leb, eqb}
use Rattle.model.specs.declared.Leg.{Leg}
use Rattle.model.specs.declared.LegType.{LegType}
use Rattle.model.specs.declared.LegType.TheVariants.{Transit, Transfer, Walk}
use Rattle.model.specs.Lists.{upto}
use Rattle.model.specs.Tables.{Foot, Net}
use Rattle.handheld.specs.Any.{any}

-- trip v of route r leaves the leg's first stop at the leg's departure, at position b
unfoldable pub leaves_at : Net → ℕ → ℕ → Leg → ℕ → Bool
leaves_at n r v g b = eqb (n.stop_at r b) g.from && eqb (n.departure v b) g.departure.0

-- it comes to the leg's last stop at the leg's arrival, at position a
unfoldable pub comes_at : Net → ℕ → ℕ → Leg → ℕ → Bool
comes_at n r v g a = eqb (n.stop_at r a) g.to && eqb (n.arrival v a) g.arrival.0

-- it does so at one of the positions from a on
unfoldable pub comes_from : Net → ℕ → ℕ → Leg → ℕ → Bool
comes_from n r v g a = any (comes_at n r v g) (upto (n.positions r - a) a)

-- "some earlier and later position of its trip fit its stops and moments"
unfoldable pub fits_from : Net → ℕ → ℕ → Leg → ℕ → Bool
fits_from n r v g b = leaves_at n r v g b && comes_from n r v g (suc b)

unfoldable pub fits_trip : Net → ℕ → ℕ → Leg → Bool
fits_trip n r v g = any (fits_from n r v g) (upto (n.positions r) 0)

-- trip v stands at place i of route r
unfoldable pub stands_at : Net → ℕ → ℕ → ℕ → Bool
stands_at n r v i = eqb (n.trip_at r i) v

-- it stands in route r, and fits there
unfoldable pub fits_route : Net → ℕ → Leg → ℕ → Bool
fits_route n v g r = any (stands_at n r v) (upto (n.trips r) 0) && fits_trip n r v g

-- a trip that stands in no route fits nothing
unfoldable pub fits_ride : Net → ℕ → Leg → Bool
fits_ride n v g = any (fits_route n v g) (upto n.routes 0)

-- the footpath leads to the leg's last stop, and "a footpath leg lasts exactly its span"
unfoldable pub fits_foot : Leg → Foot → Bool
fits_foot g f = eqb f.to g.to && eqb f.span (g.arrival.0 - g.departure.0)

-- one of those listed under the leg's first stop does so; a stop that the tables do not have lists nothing
unfoldable pub fits_path : Net → Leg → List Foot → Bool
fits_path n g fs = ltb g.from n.stops && (leb g.departure.0 g.arrival.0 && any (fits_foot g) fs)

unfoldable pub fits_leg : Net → Bool → LegType → Leg → Bool
fits_leg n walking (Transit v) g = fits_ride n v g
fits_leg n walking Transfer g = fits_path n g (n.transfers g.from)
fits_leg n walking Walk g = cond walking (fits_path n g (n.walks g.from)) false
