-- Words and marks that hold nothing beside the state. Two workspaces that are tidy and hold the same state are equal,
-- word for word (`same_words` of proofs/Same.antt).
use Rattle.std.specs.Prelude.{false, List, ◌≡◌, ℕ, ◌+◌, ◌*◌, ◌^◌, ◌≤◌, ◌<◌, length, get_or}
use Rattle.marks.specs.Marks.{marked}
use Rattle.model.specs.Limits.{MOST_ROUNDS}
use Rattle.allocator.specs.Sections.{sect}
use Rattle.allocator.specs.Rows.{row_of, parent_in, encoded}
use Rattle.allocator.specs.Layout.{pages}

-- each of the first `count` rows is the one in which its parent is written
pub record Rows (count : ℕ) (x : List ℕ) : Type 0 where
  pub written : (i : ℕ) → i < count → row_of x i ≡ encoded (parent_in x i)

-- the words x have no mark from `count` on, and nothing beyond their 64 digits
pub record Spare (count : ℕ) (x : List ℕ) : Type 0 where
  pub clear : (t : ℕ) → count ≤ t → t < 64 * length x → marked x t ≡ false
  pub fits : (i : ℕ) → get_or x i 0 < 2 ^ 64

pub record TidyParts (stops routes : ℕ) (ws ms : List ℕ) : Type 0 where
  pub rows : Rows (MOST_ROUNDS * stops) (sect (4 * stops + routes) (90 * stops) ws)
  pub mark : Spare stops (sect 0 (pages stops) ms)
  pub held_mark : Spare stops (sect (pages stops) (pages stops) ms)
  pub mask : Spare routes (sect (2 * pages stops) (pages routes) ms)

-- these four stand behind a function, so that only who asks for them has them
pub record Tidy (stops routes : ℕ) (ws ms : List ℕ) : Type 0 where
  pub known : Unit {0} → TidyParts stops routes ws ms
