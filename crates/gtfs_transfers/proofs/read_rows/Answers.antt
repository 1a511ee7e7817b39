-- `gtfs_transfers::read_rows` meets its contract: what stands and what is left of the file say what all rows are.
-- Assumes nothing.
use borrow.Author.Rules.{rules}
use Rattle.gtfs_transfers.proofs.Pacing.{pacing_start, line_fits, bad_told, bad_left, takeable, full_told, full_left, pacing_on, done_told, done_left}
use Rattle.gtfs_transfers.proofs.read_rows.Goals as goal

pub loop-i-init : goal.loop-i-init
loop-i-init c = (search (rules, pacing_start), search rules, search rules)

pub told_bad-requires : goal.told_bad-requires
told_bad-requires c = search (rules, line_fits)

pub returns-in_default-clause-value : goal.returns-in_default-clause-value
returns-in_default-clause-value c = search (rules, bad_told)

pub returns-in_default-clause-transfers_left : goal.returns-in_default-clause-transfers_left
returns-in_default-clause-transfers_left c = search (rules, bad_left)

pub take-requires : goal.take-requires
take-requires c = search (rules, takeable)

pub returns-in_default-take-clause-value : goal.returns-in_default-take-clause-value
returns-in_default-take-clause-value c = search (rules, full_told)

pub returns-in_default-take-clause-transfers_left : goal.returns-in_default-take-clause-transfers_left
returns-in_default-take-clause-transfers_left c = search (rules, full_left)

pub loop-i-preserved : goal.loop-i-preserved
loop-i-preserved c = (search (rules, pacing_on), search rules, search rules)

pub returns-clause-value : goal.returns-clause-value
returns-clause-value c = search (rules, done_told)

pub returns-clause-transfers_left : goal.returns-clause-transfers_left
returns-clause-transfers_left c = search (rules, done_left)
