-- Where a reader of the timetable stands: at a position of a route, on the trip at a place of its order.
use Rattle.std.specs.Prelude.{ℕ, ◌<◌, List}
use Rattle.repository.specs.NetOf.{net_of}
use Rattle.repository.specs.Laid.{Laid}
use Rattle.repository.specs.Accepted.{Listed}

pub record AtTrip (w : List ℕ) (r p i : ℕ) : Type 0 where
  pub laid : Laid w
  pub listed : Listed w
  pub route : r < (net_of w).routes
  pub position : p < (net_of w).positions r
  pub trip : i < (net_of w).trips r
