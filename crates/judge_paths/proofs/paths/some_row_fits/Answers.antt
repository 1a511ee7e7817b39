-- `some_row_fits`: the rows that are left decide.
use Rattle.std.proofs.Common.{rules}
use Rattle.judge_paths.proofs.Rows.{rows_start, rows_next, rows_found, rows_none}
use Rattle.judge_paths.proofs.paths.some_row_fits.Goals as goal

pub loop-j-init : goal.loop-j-init
loop-j-init c = search (rules, rows_start)

pub returns-then-row_fits : goal.returns-then-row_fits
returns-then-row_fits c = search (rules, rows_found)

pub loop-j-preserved : goal.loop-j-preserved
loop-j-preserved c = search (rules, rows_next)

pub returns : goal.returns
returns c = search (rules, rows_none)
