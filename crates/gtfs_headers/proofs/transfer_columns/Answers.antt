-- `gtfs_headers::transfer_columns` meets its contract: by the first column that is missing.
-- Assumes nothing.
use mathlib.Core.Path.{◌∙◌}
use Rattle.csv_text.specs.There.{if_there}
use Rattle.gtfs_headers.specs.Headers.{transfers_placed}
use Rattle.gtfs_headers.proofs.transfer_columns.Goals as goal

pub returns-in_err-from : goal.returns-in_err-from
unfolding transfers_placed if_there
returns-in_err-from c = c.from_residual.ensures ∙ rw (c.in_err-from.was)

pub returns-in_err-to : goal.returns-in_err-to
unfolding transfers_placed if_there
returns-in_err-to c = c.from_residual-in_err-to.ensures ∙ rw (c.in_ok-from.was, c.in_err-to.was)

pub returns-in_err-kind : goal.returns-in_err-kind
unfolding transfers_placed if_there
returns-in_err-kind c = c.from_residual-in_err-kind.ensures ∙ rw (c.in_ok-from.was, c.in_ok-to.was, c.in_err-kind.was)

pub returns-in_err-span : goal.returns-in_err-span
unfolding transfers_placed if_there
returns-in_err-span c = c.from_residual-in_err-span.ensures ∙ rw (c.in_ok-from.was, c.in_ok-to.was, c.in_ok-kind.was, c.in_err-span.was)

pub returns : goal.returns
unfolding transfers_placed if_there
returns c = rw (c.in_ok-from.was, c.in_ok-to.was, c.in_ok-kind.was, c.in_ok-span.was)
