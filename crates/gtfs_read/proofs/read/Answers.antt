-- `gtfs_read::read` meets its contract.
-- Assumes nothing.
use borrow.Author.Rules.{rules}
use Rattle.gtfs_read.proofs.Rooms.{files_lent}
use Rattle.gtfs_read.proofs.Answers.{first_long, second_long, reads_long, reads_both}
use Rattle.gtfs_read.proofs.read.Goals as goal
use Rattle.gtfs_read.proofs.read.Goals.{then-stop_times-gt-MOST_BYTES-via-then-stop_times-gt-MOST_BYTES, then-stop_times-gt-MOST_BYTES-via-else-stop_times-gt-MOST_BYTES+then-transfers-gt-MOST_BYTES}

pub returns-then-stop_times-gt-MOST_BYTES : goal.returns-then-stop_times-gt-MOST_BYTES
returns-then-stop_times-gt-MOST_BYTES c =
    elim c.then-stop_times-gt-MOST_BYTES.branch [
      | then-stop_times-gt-MOST_BYTES-via-then-stop_times-gt-MOST_BYTES w ↦
          reads_long _ _ _ (first_long _ _ w.if-stop_times-gt-MOST_BYTES.true) c.too_long.ensures
      | then-stop_times-gt-MOST_BYTES-via-else-stop_times-gt-MOST_BYTES+then-transfers-gt-MOST_BYTES w ↦
          reads_long _ _ _ (second_long _ _ w.if-stop_times-gt-MOST_BYTES.false w.if-transfers-gt-MOST_BYTES.true) c.too_long.ensures
    ]

pub read_files-requires : goal.read_files-requires
read_files-requires c = search (rules, files_lent)

pub returns : goal.returns
returns c = search (rules, reads_both)
