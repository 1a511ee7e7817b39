-- The query that eight words are, the five words of an answer, the six of a leg. "A word that names no kind of place is 7, any other bad word of
-- a query is 8": such a word stands for a stop that does not exist, or for a moment that may not be asked.
use Rattle.std.specs.Prelude.{ℕ, cond, ◌&&◌, List, ◌∷◌, leb, eqb, drop}
use Rattle.model.specs.declared.Leg.{Leg}
use Rattle.model.specs.declared.LegType.{LegType}
use Rattle.model.specs.declared.LegType.TheVariants.{Transit, Transfer, Walk}
use Rattle.model.specs.declared.Location.{Location}
use Rattle.model.specs.declared.Location.TheVariants.{Stop, Area}
use Rattle.model.specs.declared.Mode.{Mode}
use Rattle.model.specs.declared.Mode.TheVariants.{Source, Rescan}
use Rattle.model.specs.declared.Query.{Query}
use Rattle.model.specs.declared.TimeConstraint.{TimeConstraint}
use Rattle.model.specs.declared.TimeConstraint.TheVariants.{Departure, Arrival}
use Rattle.model.specs.declared.Walks.{Walks}
use Rattle.model.specs.declared.Walks.TheVariants.{Unsaid, Allowed, Barred}
use Rattle.model.specs.Moments.{MAX}
use Rattle.model.specs.Answer.{Given}
use Rattle.model.specs.Bytes.{kind_byte}

-- 0 stop, 1 area
unfoldable pub place_of : ℕ → ℕ → Location
place_of kind at = cond (eqb kind 0) (Stop at) (cond (eqb kind 1) (Area at) (Stop MAX))

-- when: 0 departure, 1 arrival; walks: 0 unsaid, 1 allowed, 2 not; mode: 0 source, 1 rescan
unfoldable pub time_of : ℕ → ℕ → ℕ → ℕ → TimeConstraint
time_of when moment walks mode =
    cond (leb when 1 && leb walks 2 && leb mode 1)
    (cond (eqb when 0) (Departure (record { 0 = moment })) (Arrival (record { 0 = moment }))) (Departure (record { 0 = 0 }))

unfoldable pub walks_of : ℕ → Walks
walks_of walks = cond (eqb walks 0) Unsaid (cond (eqb walks 1) Allowed Barred)

unfoldable pub mode_of : ℕ → Mode
mode_of mode = cond (eqb mode 0) Source Rescan

unfoldable pub query_of : ℕ → ℕ → ℕ → ℕ → ℕ → ℕ → ℕ → ℕ → Query
query_of fromKind from toKind to when moment walks mode = record {
  from = place_of fromKind from;
  to = place_of toKind to;
  time = time_of when moment walks mode;
  walks = walks_of walks;
  mode = mode_of mode;
}

-- "`answer` takes number, time, stop, round, length"
unfoldable pub told_in : Given → List ℕ → List ℕ
told_in g a = g.number ∷ g.time ∷ g.stop ∷ g.round ∷ g.length ∷ drop 5 a

-- a footpath has no trip: its word is MAX
abbrev pub trip_word : LegType → ℕ
trip_word (Transit v) = v
trip_word Transfer = MAX
trip_word Walk = MAX

-- a leg in the first six words
unfoldable pub leg_told_in : Leg → List ℕ → List ℕ
leg_told_in g leg = kind_byte g.kind ∷ g.from ∷ g.to ∷ trip_word g.kind ∷ g.departure.0 ∷ g.arrival.0 ∷ drop 6 leg
