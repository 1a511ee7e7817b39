-- The feed's C face: what a call answers and leaves, in words and numbers.
use Rattle.std.specs.Prelude.{ℕ, ◌≤◌, ◌<◌, ◌≡◌, cond, List, [], ◌∷◌, leb, length, Result, Ok, Err}
use Rattle.base.specs.Put.{with_bytes}
use Rattle.gtfs_read.specs.declared.Told.{Told}
use Rattle.gtfs_read.specs.Reads.{LentFeed, feed_room, is_too_long, ending_number, ending_line, ending_file, told_feed, Reads}
use Rattle.gtfs_write.specs.Written.{held_after}

-- ---- a writing: its number, and how many bytes were written
unfoldable pub writing_number : Result ℕ ℕ → ℕ
writing_number (Ok n) = 0
writing_number (Err k) = k

abbrev pub writing_size : Result ℕ ℕ → ℕ
writing_size (Ok n) = n
writing_size (Err k) = 0

abbrev pub writing_words : Result ℕ ℕ → List ℕ
writing_words x = writing_number x ∷ writing_size x ∷ []

-- two words are told; with fewer in `told` the number is 6, and nothing is touched
unfoldable pub writing_answer : Result ℕ ℕ → List ℕ → ℕ
writing_answer x told = cond (leb 2 (length told)) (writing_number x) 6

unfoldable pub writing_told : Result ℕ ℕ → List ℕ → List ℕ
writing_told x told = cond (leb 2 (length told)) (with_bytes told 0 (writing_words x)) told

unfoldable pub writing_left : Result ℕ ℕ → List ℕ → List ℕ → List ℕ → List ℕ
writing_left x told out text = cond (leb 2 (length told)) (held_after x out text) out

-- ---- a reading: the number, where a bad line stands, and how much was taken
unfoldable pub reading_words : Told → List ℕ
reading_words t =
    ending_number t.ending ∷ ending_line t.ending ∷ ending_file t.ending ∷ t.stops ∷ t.split ∷ t.trips ∷ t.times ∷ t.transfers ∷ []

-- eight words are told; with fewer in `told` the number is 1 where a file is too long, else 6
unfoldable pub reading_short : List ℕ → List ℕ → ℕ
reading_short a b = cond (is_too_long a b) 1 6

-- two files, what is lent and `told`; the number, and both afterwards: what `read` answers and leaves, or nothing is touched
pub record FeedFaced (a b : List ℕ) (l : LentFeed) (told : List ℕ) (r : ℕ) (l' : LentFeed) (told' : List ℕ) : Type 0 where
  pub number : r ≡ cond (leb 8 (length told)) (ending_number (told_feed (feed_room l) a b).ending) (reading_short a b)
  pub tells : told' ≡ cond (leb 8 (length told)) (with_bytes told 0 (reading_words (told_feed (feed_room l) a b))) told
  pub reads : 8 ≤ length told → Reads a b l (told_feed (feed_room l) a b) l'
  pub untouched : length told < 8 → l' ≡ l
