-- What the writer of transfers answers.
use Rattle.std.specs.Prelude.{ℕ, List, length, Result}
use Rattle.model.specs.Limits.{MOST_TRANSFERS}
use Rattle.feed.specs.Orderly.{transfers_fault}
use Rattle.feed.specs.Rows.{transfer_rows_in}
use Rattle.feed.specs.Writing.{write_transfers}
use Rattle.gtfs_write.specs.Written.{LIMITS, whole_rows, answered}

-- the words, how many stops have appeared, and the buffer's length: 1 for words that are no rows or too many, 2 or 5 for the first row at fault, 15 for
-- too short a buffer
unfoldable pub written_transfers : List ℕ → ℕ → ℕ → Result ℕ ℕ
written_transfers w stops room =
    answered (whole_rows MOST_TRANSFERS w) (transfers_fault LIMITS stops (transfer_rows_in w)) (length (write_transfers (transfer_rows_in w))) room
