-- `gtfs_c::kiosk_gtfs_write_transfers` meets its contract: too few words, or what the writer answers and leaves.
-- Assumes nothing.
use borrow.Author.Rules.{rules}
use Rattle.gtfs_c.proofs.Sizes.{transfers_size}
use Rattle.gtfs_c.proofs.Writings.{short_answer, short_told, short_left, whole_answer, whole_told, whole_left}
use Rattle.gtfs_c.proofs.kiosk_gtfs_write_transfers.Goals as goal

pub returns-then-told-lt2-clause-value : goal.returns-then-told-lt2-clause-value
returns-then-told-lt2-clause-value c = search (rules, short_answer)

pub returns-then-told-lt2-clause-out_after : goal.returns-then-told-lt2-clause-out_after
returns-then-told-lt2-clause-out_after c = search (rules, short_left)

pub returns-then-told-lt2-clause-told_after : goal.returns-then-told-lt2-clause-told_after
returns-then-told-lt2-clause-told_after c = search (rules, short_told)

pub tell_written-requires-clause-fits : goal.tell_written-requires-clause-fits
tell_written-requires-clause-fits c = search (rules, transfers_size)

pub returns-clause-value : goal.returns-clause-value
returns-clause-value c = search (rules, whole_answer)

pub returns-clause-out_after : goal.returns-clause-out_after
returns-clause-out_after c = search (rules, whole_left)

pub returns-clause-told_after : goal.returns-clause-told_after
returns-clause-told_after c = search (rules, whole_told)
