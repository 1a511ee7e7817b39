-- `gtfs_read::read_files` meets its contract.
-- Assumes nothing.
use mathlib.Core.Path.{sym}
use Rattle.gtfs_read.proofs.Files.{first_says, first_leaves, paths_lent, both_say, both_left}
use Rattle.gtfs_read.proofs.read_files.Goals as goal

pub returns-then-is_err-clause-value : goal.returns-then-is_err-clause-value
returns-then-is_err-clause-value c =
    first_says _ _ _ c.read_times-first.ensures.value (sym c.if-is_err.ensures.value) c.first_told.ensures

pub returns-then-is_err-clause-left : goal.returns-then-is_err-clause-left
returns-then-is_err-clause-left c =
    first_leaves _ _ _ c.read_times-first.ensures.value c.read_times-first.ensures.times_left _ (sym c.if-is_err.ensures.value)

pub read_transfers-second-requires : goal.read_transfers-second-requires
read_transfers-second-requires c =
    paths_lent _ _ _ c.read_times-first.ensures.value c.read_times-first.ensures.times_left c.requires

pub returns-clause-value : goal.returns-clause-value
returns-clause-value c =
    both_say _ _ _ c.read_times-first.ensures.value c.read_times-first.ensures.times_left (sym c.if-is_err.ensures.value)
    c.read_transfers-second.ensures.value c.both_told.ensures

pub returns-clause-left : goal.returns-clause-left
returns-clause-left c =
    both_left _ _ _ c.read_times-first.ensures.value c.read_times-first.ensures.times_left (sym c.if-is_err.ensures.value)
    c.read_transfers-second.ensures.value c.read_transfers-second.ensures.transfers_left
