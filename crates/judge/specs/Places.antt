-- The verdict on what the bytes are read as, and the query that it is given for.
use Rattle.std.specs.Prelude.{ℕ, ◌≡◌, Bool, true, false, List}
use Rattle.model.specs.declared.Query.{Query}
use Rattle.model.specs.Tables.{Net}
use Rattle.model.specs.Bytes.{Read, legs, bad}
use Rattle.model.specs.Places.{exists}
use Rattle.repository.specs.Accepted.{Accepted}
use Rattle.repository.specs.NetOf.{net_of}
use Rattle.handheld.specs.Verdict.{verdict}

-- the tables are accepted and have the query's two places
pub record HasPlaces (w : List ℕ) (q : Query) : Type 0 where
  pub known : Accepted w
  pub from : exists (net_of w) q.from ≡ true
  pub to : exists (net_of w) q.to ≡ true

-- what is no legs is not right
unfoldable pub verdict_on : Net → Query → Read → Bool
verdict_on n q (legs gs) = verdict n q gs
verdict_on n q (bad o) = false
