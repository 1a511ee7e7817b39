-- When two networks are the same network, however they are written down: `Same` and `SamePlaces` as lists, which compute.
use Rattle.std.specs.Prelude.{◌≡◌}
use Rattle.base.specs.Tab.{tab}
use Rattle.model.specs.Tables.{Net}

-- two networks say the same of all that there is in them: of their stops, their routes, the positions and trips of these, and their areas.
-- `tab f n 0` lists f 0 up to f (n - 1)
pub record Alike (n m : Net) : Type 0 where
  pub stops : n.stops ≡ m.stops
  pub routes : n.routes ≡ m.routes
  pub positions : tab n.positions n.routes 0 ≡ tab m.positions n.routes 0
  pub trips : tab n.trips n.routes 0 ≡ tab m.trips n.routes 0
  pub stop_at : tab (λ r. tab (n.stop_at r) (n.positions r) 0) n.routes 0 ≡ tab (λ r. tab (m.stop_at r) (n.positions r) 0) n.routes 0
  pub trip_at : tab (λ r. tab (n.trip_at r) (n.trips r) 0) n.routes 0 ≡ tab (λ r. tab (m.trip_at r) (n.trips r) 0) n.routes 0
  pub arrival : tab (λ r. tab (λ i. tab (n.arrival (n.trip_at r i)) (n.positions r) 0) (n.trips r) 0) n.routes 0
      ≡ tab (λ r. tab (λ i. tab (m.arrival (n.trip_at r i)) (n.positions r) 0) (n.trips r) 0) n.routes 0
  pub departure : tab (λ r. tab (λ i. tab (n.departure (n.trip_at r i)) (n.positions r) 0) (n.trips r) 0) n.routes 0
      ≡ tab (λ r. tab (λ i. tab (m.departure (n.trip_at r i)) (n.positions r) 0) (n.trips r) 0) n.routes 0
  pub routes_of : tab n.routes_of n.stops 0 ≡ tab m.routes_of n.stops 0
  pub transfers : tab n.transfers n.stops 0 ≡ tab m.transfers n.stops 0
  pub walks : tab n.walks n.stops 0 ≡ tab m.walks n.stops 0
  pub station : tab n.station n.stops 0 ≡ tab m.station n.stops 0
  pub children : tab n.children n.stops 0 ≡ tab m.children n.stops 0
  pub served : tab n.served n.stops 0 ≡ tab m.served n.stops 0
  pub areas : n.areas ≡ m.areas
  pub area_stops : tab n.area_stops n.areas 0 ≡ tab m.area_stops n.areas 0
