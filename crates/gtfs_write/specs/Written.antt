-- How a writer of rows answers: "15 for a table that is full" where the buffer is too short; nothing is written where it refuses.
use Rattle.std.specs.Prelude.{ℕ, zero, suc, ◌/◌, ◌%◌, ◌≤◌, ◌≡◌, Bool, cond, ◌&&◌, List, [], ◌∷◌, ◌++◌, leb, eqb, length, Result, Ok, Err}
use Rattle.base.specs.Put.{with_bytes}
use Rattle.model.specs.Limits.{MOST_STOPS, MOST_TRIPS, MOST_STOP_TIMES, MOST_TRANSFERS}
use Rattle.feed.specs.declared.Room.{Room}

-- document 01's
abbrev pub LIMITS : Room
LIMITS = record { stops = MOST_STOPS; trips = MOST_TRIPS; times = MOST_STOP_TIMES; transfers = MOST_TRANSFERS }

-- four words a row, and no more rows than `most`
unfoldable pub whole_rows : ℕ → List ℕ → Bool
whole_rows most w = eqb (length w % 4) 0 && leb (length w / 4) most

pub record Whole (most : ℕ) (w : List ℕ) : Type 0 where
  pub fours : length w % 4 ≡ 0
  pub few : length w / 4 ≤ most

-- so many bytes, or the number of a refusal: 1 where the words are no rows or too many, then the rows' fault, then 15 where the text has no room
unfoldable pub answered : Bool → ℕ → ℕ → ℕ → Result ℕ ℕ
answered rows fault size room =
    cond rows
    (elim fault [ zero ↦ cond (leb size room) (Ok size) (Err 15) | suc k ↦ Err (suc k) ])
    (Err 1)

-- the text stands at the buffer's beginning, or the buffer is as it was
unfoldable pub held_after : {E : Type 0} → Result ℕ E → List ℕ → List ℕ → List ℕ
held_after (Ok n) out text = with_bytes out 0 text
held_after (Err k) out text = out

-- a text with the byte behind it
unfoldable pub cell : List ℕ → ℕ → List ℕ
cell t end = t ++ (end ∷ [])
