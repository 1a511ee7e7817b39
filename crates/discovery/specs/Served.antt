-- The served stops of a list, written one after the other.
use Rattle.std.specs.Prelude.{ℕ, ◌+◌, ◌≡◌, List, length, drop}
use Rattle.std.proofs.lemmas.List.Edits.{sets}
use Rattle.model.specs.Lists.{gather}
use Rattle.model.specs.Tables.{Net}
use Rattle.model.specs.Places.{served_of}

-- w with the entries of a list in the places from k on
unfoldable pub puts : List ℕ → ℕ → List ℕ → List ℕ
puts w k l = sets w k l

-- the stops of an area that come of the stops which it names from place i on
unfoldable pub area_rest : Net → List ℕ → ℕ → List ℕ
area_rest n named i = gather (λ s. served_of n (n.children s)) (drop i named)

-- k of the `total` stops are counted, and those of the list l are left
pub record Tally (total k : ℕ) (l : List ℕ) : Type 0 where
  pub rest : k + length l ≡ total

-- the places are w, and writing the list l from place k on makes them `goal`
pub record Filling (goal w : List ℕ) (k : ℕ) (l : List ℕ) : Type 0 where
  pub rest : puts w k l ≡ goal
