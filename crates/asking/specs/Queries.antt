-- The query that the words `fromkind from tokind to d|a moment walks` of a line are, in a mode; or nothing, where they are none.
use Rattle.std.specs.Prelude.{ℕ, cond, List, eqb, ltb, length, get_or, Option, Some, None}
use Rattle.model.specs.declared.Location.{Location}
use Rattle.model.specs.declared.Location.TheVariants.{Stop, Area}
use Rattle.model.specs.declared.TimeConstraint.{TimeConstraint}
use Rattle.model.specs.declared.TimeConstraint.TheVariants.{Departure, Arrival}
use Rattle.model.specs.declared.Walks.{Walks}
use Rattle.model.specs.declared.Walks.TheVariants.{Unsaid, Allowed, Barred}
use Rattle.model.specs.declared.Mode.{Mode}
use Rattle.model.specs.declared.Mode.TheVariants.{Source, Rescan}
use Rattle.model.specs.declared.Query.{Query}

-- `s` (115) for a stop, `a` (97) for an area
abbrev pub place_in : ℕ → ℕ → Option Location
place_in kind at = cond (eqb kind 115) (Some (Stop at)) (cond (eqb kind 97) (Some (Area at)) None)

-- `d` (100) departs at the moment, `a` (97) arrives by it
abbrev pub when_in : ℕ → ℕ → Option TimeConstraint
when_in kind m =
    cond (eqb kind 100) (Some (Departure (record { 0 = m }))) (cond (eqb kind 97) (Some (Arrival (record { 0 = m }))) None)

-- 0 bars walks, 1 allows them, anything else does not say
abbrev pub walks_in : ℕ → Walks
walks_in word = cond (eqb word 0) Barred (cond (eqb word 1) Allowed Unsaid)

-- `r` (114) is the rescan mode, anything else the source's
abbrev pub mode_in : ℕ → Mode
mode_in word = cond (eqb word 114) Rescan Source

-- a query where each of its parts is one
abbrev pub query_between : Option Location → Option Location → Option TimeConstraint → Walks → Mode → Option Query
query_between (Some f) (Some t) (Some c) w m = Some (record { from = f; to = t; time = c; walks = w; mode = m })
query_between (Some f) (Some t) None w m = None
query_between (Some f) None c w m = None
query_between None t c w m = None

abbrev pub query_in : List ℕ → ℕ → Option Query
query_in l how =
    cond (ltb (length l) 7) None
    (query_between (place_in (get_or l 0 0) (get_or l 1 0)) (place_in (get_or l 2 0) (get_or l 3 0)) (when_in (get_or l 4 0) (get_or l 5 0))
    (walks_in (get_or l 6 0)) (mode_in how))
