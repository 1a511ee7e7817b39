-- Words that a set of marks has room for, and the marks once they are set.
use Rattle.std.specs.Prelude.{ℕ, zero, suc, ◌-◌, ◌*◌, ◌≤◌, ◌<◌, ◌≡◌, Bool, true, false, cond, List, length}
use Rattle.marks.specs.Marks.{marked, with_mark, Stand}
use Rattle.repository.specs.Sections.{size, sec, SECTIONS}
use Rattle.repository.specs.Listed.{among}

-- the words a, .., b - 1 of section k exist, and m words of marks have a mark for each
pub record Fitting (w : List ℕ) (k a b m : ℕ) : Type 0 where
  pub section : k < SECTIONS
  pub order : a ≤ b
  pub within : b ≤ size w k
  pub marks : (i : ℕ) → a ≤ i → i < b → sec w k i < 64 * m

-- nothing is marked
pub record Unmarked (ws : List ℕ) : Type 0 where
  pub none : (t : ℕ) → t < 64 * length ws → marked ws t ≡ false

-- n words of section k from i on are marked in turn, up to the first that is marked already
unfoldable pub marked_on : List ℕ → ℕ → ℕ → ℕ → List ℕ → List ℕ
marked_on w k zero i ws = ws
marked_on w k (suc n) i ws = cond (marked ws (sec w k i)) ws (marked_on w k n (suc i) (with_mark ws (sec w k i)))

-- the marks as they are left by the words a, .., b - 1
unfoldable pub marked_by : List ℕ → ℕ → ℕ → ℕ → List ℕ → List ℕ
marked_by w k a b ws = marked_on w k (b - a) a ws

-- where the answer is yes, just the words a, .., b - 1 are marked
pub record JustMarked (ok : Bool) (ws w : List ℕ) (k a b : ℕ) : Type 0 where
  pub stand : ok ≡ true → Stand ws (among w k a b)
