-- `gtfs_c::tell_read` meets its contract: four words, and four behind them.
-- Assumes nothing.
use Rattle.gtfs_c.proofs.Readings.{eight_told}
use Rattle.gtfs_c.proofs.tell_read.Goals as goal

pub returns-clause-told_after : goal.returns-clause-told_after
returns-clause-told_after c =
    eight_told _ c.args.t c.requires c.number_of-number.ensures c.line_of-line.ensures c.file_of-file.ensures c.put_row.ensures c.put_row-2.ensures
