-- What the steps of a query that is not refused find and leave.
use Rattle.std.specs.Prelude.{ℕ, ◌≡◌, true, List, ◌++◌, length}
use Rattle.model.specs.declared.Location.{Location}
use Rattle.model.specs.declared.Query.{Query}
use Rattle.model.specs.Tables.{Net}
use Rattle.model.specs.Places.{exists, place_stops}
use Rattle.model.specs.Answer.{Answer, may_walk, moment_of, refusal, searched, legs_of, reply}
use Rattle.model.specs.Left.{placed, written}
use Rattle.repository.specs.Accepted.{Accepted}
use Rattle.repository.specs.NetOf.{net_of}
use Rattle.raptor_query.specs.Areas.{area_part}
use Rattle.raptor_query.specs.Directed.{direction_of}
use Rattle.raptor_rounds.specs.declared.Ask.{Ask}
use Rattle.raptor_rounds.specs.Tabled.{Tabled}
use Rattle.base.specs.Below.{Below}
use Rattle.raptor.specs.Lent.{Lent}
use Rattle.raptor.specs.Solved.{Ended}

-- what the search is asked: the query's own, and the sizes of the tables
unfoldable pub ask_of : Net → Query → Ask
ask_of n q = record {
  stops = n.stops;
  routes = n.routes;
  direction = direction_of q.time;
  mode = q.mode;
  walking = may_walk q.walks;
  moment = record { 0 = moment_of q.time };
}

-- a query that accepted tables do not refuse, as it is asked; their many facts stand behind a function
pub record Posed (w : List ℕ) (q : Query) (a : Ask) : Type 0 where
  pub known : Unit {0} → Accepted w
  pub tabled : Tabled w a.stops a.routes
  pub asks : a ≡ ask_of (net_of w) q
  pub unrefused : refusal (net_of w) q ≡ 0

-- a place that exists, its stops known, and what of it stands in the workspace
pub record Place (n : Net) (stops : ℕ) (l : Location) (area : List ℕ) : Type 0 where
  pub there : exists n l ≡ true
  pub below : Below stops (place_stops n l)
  pub stands : area ≡ area_part n l

-- the places as `write_places` leaves them, with as many stops in each half as it says
pub record Written (n : Net) (q : Query) (ps : List ℕ) (origins goals : ℕ) : Type 0 where
  pub places : ps ≡ placed n q.from ++ placed n q.to
  pub from_size : origins ≡ length (area_part n q.from)
  pub to_size : goals ≡ length (area_part n q.to)

-- what comes of a query that nothing refuses, with the journey buffer as it is lent
pub record Ran (n : Net) (q : Query) (buffer : List ℕ) (r : Answer) (after : Lent) : Type 0 where
  pub answers : r ≡ reply (length buffer) (searched n q).times.target (legs_of n q)
  pub journey : after.journey ≡ written r (legs_of n q) buffer
  pub ended : Ended n q after
