-- What the writer of stop times answers.
use Rattle.std.specs.Prelude.{ℕ, suc, List, length, Option, None, Some, Result}
use Rattle.model.specs.Limits.{MOST_STOP_TIMES}
use Rattle.feed.specs.Orderly.{Seen, none_seen, times_fault}
use Rattle.feed.specs.Rows.{time_rows_in}
use Rattle.feed.specs.Writing.{write_times}
use Rattle.gtfs_write.specs.Written.{LIMITS, whole_rows, answered}

abbrev pub seen_so : ℕ → ℕ → Seen
seen_so stops trips = record { stops = stops; trips = trips }

-- one more than the trip of the row before, and 0 before the first row
abbrev pub past_last : Option ℕ → ℕ
past_last None = 0
past_last (Some trip) = suc trip

-- the words and the buffer's length: 1 for words that are no rows or too many, 2 or 3 for the first row at fault, 15 for too short a buffer
unfoldable pub written_times : List ℕ → ℕ → Result ℕ ℕ
written_times w room =
    answered (whole_rows MOST_STOP_TIMES w) (times_fault LIMITS none_seen (time_rows_in w)) (length (write_times (time_rows_in w))) room
