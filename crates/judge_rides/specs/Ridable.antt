-- A trip of accepted tables in the route that it stands in.
use Rattle.std.specs.Prelude.{ℕ, ◌<◌, List}
use Rattle.repository.specs.Accepted.{Accepted}
use Rattle.repository.specs.NetOf.{net_of}
use Rattle.repository.specs.Rows.{TripOf}

-- the tables' many facts stand behind a function, so that only who asks for them has them
pub record Ridable (w : List ℕ) (r v : ℕ) : Type 0 where
  pub known : Unit {0} → Accepted w
  pub route : r < (net_of w).routes
  pub trip : TripOf (net_of w) r v

-- and a position of it
pub record RidableAt (w : List ℕ) (r v p : ℕ) : Type 0 where
  pub ridable : Ridable w r v
  pub position : p < (net_of w).positions r
