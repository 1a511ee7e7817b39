-- A parent as a row of six words: kind, from, to, trip, departure, arrival. "an .. absent parent is MAX": six times.
use Rattle.std.specs.Prelude.{cond, List, [], ◌∷◌, ℕ, ◌*◌, eqb, get_or, replicate}
use Rattle.std.specs.Prelude.{Option, None, Some}
use Rattle.base.specs.Tab.{tab}
use Rattle.model.specs.declared.Leg.{Leg}
use Rattle.model.specs.declared.LegType.{LegType}
use Rattle.model.specs.declared.LegType.TheVariants.{Transit, Transfer, Walk}
use Rattle.model.specs.Moments.{MAX}
use Rattle.allocator.specs.Sections.{sect}

-- the kinds have the numbers that they have in the journey bytes
unfoldable pub row_kind : LegType → ℕ
row_kind (Transit v) = 1
row_kind Transfer = 2
row_kind Walk = 3

-- a footpath has no trip
unfoldable pub row_trip : LegType → ℕ
row_trip (Transit v) = v
row_trip Transfer = 0
row_trip Walk = 0

-- the row of a leg
unfoldable pub leg_row : Leg → List ℕ
leg_row g = row_kind g.kind ∷ g.from ∷ g.to ∷ row_trip g.kind ∷ g.departure.0 ∷ g.arrival.0 ∷ []

unfoldable pub encoded : Option Leg → List ℕ
unfolding leg_row
encoded None = replicate 6 MAX
encoded (Some g) = leg_row g

-- the leg of a row, by its kind
unfoldable pub row_leg : LegType → List ℕ → Leg
row_leg c x = record {
  from = get_or x 1 0;
  to = get_or x 2 0;
  departure = record { 0 = get_or x 4 0 };
  arrival = record { 0 = get_or x 5 0 };
  kind = c;
}

-- a row of no kind is an absent parent
unfoldable pub decoded : List ℕ → Option Leg
decoded x =
    cond (eqb (get_or x 0 0) 1) (Some (row_leg (Transit (get_or x 3 0)) x))
    (cond (eqb (get_or x 0 0) 2) (Some (row_leg Transfer x)) (cond (eqb (get_or x 0 0) 3) (Some (row_leg Walk x)) None))

-- row i of a list of rows
unfoldable pub row_of : List ℕ → ℕ → List ℕ
row_of x i = sect (i * 6) 6 x

-- the parent in row i
unfoldable pub parent_in : List ℕ → ℕ → Option Leg
parent_in x i = decoded (row_of x i)

-- the parents of the first `count` rows
unfoldable pub parents : ℕ → List ℕ → List (Option Leg)
parents count x = tab (parent_in x) count 0
