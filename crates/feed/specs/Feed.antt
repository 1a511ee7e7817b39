-- What is read: the ids of the stops and of the trips, each at the place that is its number, and the rows in the order of their lines.
use Rattle.std.specs.Prelude.{ℕ, zero, suc, List, [], ◌∷◌, ◌++◌, length, get_or}
use Rattle.names.specs.Names.{place_among}

-- a stop time: the trip and the stop by their numbers. Its position is how many rows of the trip stand before it.
pub record TimeRow : Type 0 where
  pub trip : ℕ
  pub stop : ℕ
  pub arrival : ℕ
  pub departure : ℕ

-- a transfer: its type, 0 for an empty one, and its span, MAX for an unstated one
pub record TransferRow : Type 0 where
  pub from : ℕ
  pub to : ℕ
  pub kind : ℕ
  pub span : ℕ

pub record Feed : Type 0 where
  pub stops : List (List ℕ)
  pub trips : List (List ℕ)
  pub times : List TimeRow
  pub transfers : List TransferRow

abbrev pub empty_feed : Feed
empty_feed = record { stops = []; trips = []; times = []; transfers = [] }

-- one more than the number of a name, 0 for a new one
unfoldable pub known_as : List (List ℕ) → List ℕ → ℕ
known_as names t = place_among (λ i. get_or names i []) t (length names)

-- "in order of first appearance": a new name is put behind the others, and its number is how many there were
unfoldable pub named_by : List (List ℕ) → List ℕ → ℕ → List (List ℕ)
named_by names t zero = names ++ (t ∷ [])
named_by names t (suc i) = names

unfoldable pub named : List (List ℕ) → List ℕ → List (List ℕ)
named names t = named_by names t (known_as names t)

unfoldable pub number_by : List (List ℕ) → ℕ → ℕ
number_by names zero = length names
number_by names (suc i) = i

unfoldable pub number_of : List (List ℕ) → List ℕ → ℕ
number_of names t = number_by names (known_as names t)

-- how the reading ends: "14 with its line", in which of the two files, or 15
pub data End : Type 0 where
  done : End
  bad_times : ℕ → End
  bad_transfers : ℕ → End
  full : End

pub record Got : Type 0 where
  pub feed : Feed
  pub end : End
