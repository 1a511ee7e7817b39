-- What is held of a feed, wherever its reading ended.
use Rattle.std.specs.Prelude.{ℕ, ◌≤◌, ◌<◌, ◌≡◌, List, [], length, get_or}
use Rattle.feed.specs.declared.Room.{Room}
use Rattle.feed.specs.Feed.{Feed}
use Rattle.feed.specs.Orderly.{none_seen, after_times, after_transfers}

-- no name stands twice
pub record Once (names : List (List ℕ)) : Type 0 where
  pub once : (i j : ℕ) → i < length names → j < length names → get_or names i [] ≡ get_or names j [] → i ≡ j

-- a name that does not stand there
pub record Unnamed (names : List (List ℕ)) (t : List ℕ) : Type 0 where
  pub nowhere : (i : ℕ) → i < length names → get_or names i [] ≡ t → ⊥

-- as many names as numbers appear in the rows
pub record Tallies (f : Feed) : Type 0 where
  pub stops : length f.stops ≡ after_transfers (after_times none_seen f.times).stops f.transfers
  pub trips : length f.trips ≡ (after_times none_seen f.times).trips

-- no table has more rows than it takes
pub record InRoom (room : Room) (f : Feed) : Type 0 where
  pub stops : length f.stops ≤ room.stops
  pub trips : length f.trips ≤ room.trips
  pub times : length f.times ≤ room.times
  pub transfers : length f.transfers ≤ room.transfers
