-- `gtfs_paths::second_number` meets its contract: the second text is among the names, is the first, or is new.
-- Assumes nothing.
use borrow.Author.Rules.{rules}
use Rattle.gtfs_paths.proofs.Second.{second_old, second_same, second_known, second_new}
use Rattle.gtfs_paths.proofs.second_number.Goals as goal

pub returns-then-from-shelf : goal.returns-then-from-shelf
returns-then-from-shelf c = search (rules, second_old)

pub returns-then-same : goal.returns-then-same
returns-then-same c = search (rules, second_same)

pub returns-then-to-shelf : goal.returns-then-to-shelf
returns-then-to-shelf c = search (rules, second_known)

pub returns : goal.returns
returns c = search (rules, second_new)
