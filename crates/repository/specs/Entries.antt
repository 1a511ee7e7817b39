-- What the leaves of the readers ask: an entry of a starts section, and a part of a section.
use Rattle.std.specs.Prelude.{ℕ, ◌+◌, ◌≤◌, ◌<◌, List}
use Rattle.repository.specs.Sections.{size, sec, SECTIONS}

-- entry i of the starts section k: its rows begin where it says, and end where the next entry says
pub record Entry (w : List ℕ) (k i : ℕ) : Type 0 where
  pub section : k < SECTIONS
  pub next : i + 1 < size w k
  pub rise : sec w k i ≤ sec w k (i + 1)

-- words a, .., b - 1 of section k
pub record Part (w : List ℕ) (k a b : ℕ) : Type 0 where
  pub section : k < SECTIONS
  pub rise : a ≤ b
  pub within : b ≤ size w k

-- an entry whose rows are words of section k + 1
pub record EntryWords (w : List ℕ) (k i : ℕ) : Type 0 where
  pub entry : Entry w k i
  pub section : k + 1 < SECTIONS
  pub within : sec w k (i + 1) ≤ size w (k + 1)
