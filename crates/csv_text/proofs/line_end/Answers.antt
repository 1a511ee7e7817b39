-- `csv_text::line_end` meets its contract: the bytes behind are the line so far.
-- Assumes nothing.
use borrow.Author.Rules.{rules}
use Rattle.csv_text.proofs.Lining.{seeking_start, seeking_on, seeking_found, seeking_end, behind_found, behind_end}
use Rattle.csv_text.proofs.line_end.Goals as goal

pub loop-i-init : goal.loop-i-init
loop-i-init c = search (rules, seeking_start)

pub returns-then-bytes-i-eq10-clause-bytes_value : goal.returns-then-bytes-i-eq10-clause-bytes_value
returns-then-bytes-i-eq10-clause-bytes_value c = search (rules, seeking_found)

pub returns-then-bytes-i-eq10-clause-bytes_value_2 : goal.returns-then-bytes-i-eq10-clause-bytes_value_2
returns-then-bytes-i-eq10-clause-bytes_value_2 c = search (rules, behind_found)

pub loop-i-preserved : goal.loop-i-preserved
loop-i-preserved c = search (rules, seeking_on)

pub returns-clause-bytes_value : goal.returns-clause-bytes_value
returns-clause-bytes_value c = search (rules, seeking_end)

pub returns-clause-bytes_value_2 : goal.returns-clause-bytes_value_2
returns-clause-bytes_value_2 c = search (rules, behind_end)
