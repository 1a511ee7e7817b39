-- Rows as callers know them: numbers, and what a row says. Where a row stands in the words, only this crate knows.
use Rattle.std.specs.Prelude.{ℕ, ◌+◌, ◌-◌, ◌≤◌, ◌<◌, ◌≡◌, List}
use Rattle.base.specs.Tab.{tab}
use Rattle.model.specs.Tables.{Net}
use Rattle.repository.specs.Sections.{sec, trips, rows, CALL_STARTS, TRANSFER_STARTS, WALK_STARTS, TIME_STARTS, TIMES}
use Rattle.repository.specs.Sections.{CALL_WORDS, TRANSFER_WORDS, WALK_WORDS, TIME_WORDS, standing_route}
use Rattle.repository.specs.NetOf.{net_of}

-- the three lists of rows that stand under a stop
pub data Listing : Type 0 where
  calls transfers walks : Listing

-- the starts section of a list, and how wide a row of the section behind it is
unfoldable pub starts_of : Listing → ℕ
starts_of calls = CALL_STARTS
starts_of transfers = TRANSFER_STARTS
starts_of walks = WALK_STARTS

unfoldable pub wide_of : Listing → ℕ
wide_of calls = CALL_WORDS
wide_of transfers = TRANSFER_WORDS
wide_of walks = WALK_WORDS

-- how many rows a list has
unfoldable pub row_count : Listing → List ℕ → ℕ
row_count l w = rows w (starts_of l + 1) (wide_of l)

-- the first row of stop s, and the row past its last
unfoldable pub first_row : Listing → List ℕ → ℕ → ℕ
first_row l w s = sec w (starts_of l) s

unfoldable pub past_row : Listing → List ℕ → ℕ → ℕ
past_row l w s = sec w (starts_of l) (s + 1)

-- row j stands under stop s
pub record OfStop (l : Listing) (w : List ℕ) (s j : ℕ) : Type 0 where
  pub stop : s < (net_of w).stops
  pub from : first_row l w s ≤ j
  pub past : j < past_row l w s

-- the rows j, j + 1, .., b - 1, as a list of what f says of each
unfoldable pub rest : {A : Type 0} → (ℕ → A) → ℕ → ℕ → List A
rest f j b = tab f (b - j) j

-- trip v is one of route r
pub record TripOf (n : Net) (r v : ℕ) : Type 0 where
  pub place : ℕ
  pub within : place < n.trips r
  pub trip : v ≡ n.trip_at r place

-- how many trips and how many rows of times there are, and the first row of a trip
unfoldable pub trip_count : List ℕ → ℕ
trip_count w = trips w

unfoldable pub time_count : List ℕ → ℕ
time_count w = rows w TIMES TIME_WORDS

unfoldable pub time_row : List ℕ → ℕ → ℕ
time_row w v = sec w TIME_STARTS v

-- the route that a trip stands in
unfoldable pub route_of_trip : List ℕ → ℕ → ℕ
route_of_trip w v = standing_route w v

-- trip v has a position p
pub record Stands (w : List ℕ) (v p : ℕ) : Type 0 where
  pub trip : v < trip_count w
  pub row : time_row w v + p < time_count w
