-- `gtfs_headers::times_columns` meets its contract: by the first column that is missing.
-- Assumes nothing.
use mathlib.Core.Path.{◌∙◌}
use Rattle.csv_text.specs.There.{if_there}
use Rattle.gtfs_headers.specs.Headers.{times_placed}
use Rattle.gtfs_headers.proofs.times_columns.Goals as goal

pub returns-in_err-trip : goal.returns-in_err-trip
unfolding times_placed if_there
returns-in_err-trip c = c.from_residual.ensures ∙ rw (c.in_err-trip.was)

pub returns-in_err-arrival : goal.returns-in_err-arrival
unfolding times_placed if_there
returns-in_err-arrival c = c.from_residual-in_err-arrival.ensures ∙ rw (c.in_ok-trip.was, c.in_err-arrival.was)

pub returns-in_err-departure : goal.returns-in_err-departure
unfolding times_placed if_there
returns-in_err-departure c = c.from_residual-in_err-departure.ensures ∙ rw (c.in_ok-trip.was, c.in_ok-arrival.was, c.in_err-departure.was)

pub returns-in_err-stop : goal.returns-in_err-stop
unfolding times_placed if_there
returns-in_err-stop c = c.from_residual-in_err-stop.ensures ∙ rw (c.in_ok-trip.was, c.in_ok-arrival.was, c.in_ok-departure.was, c.in_err-stop.was)

pub returns-in_err-sequence : goal.returns-in_err-sequence
unfolding times_placed if_there
returns-in_err-sequence c = c.from_residual-in_err-sequence.ensures ∙ rw (c.in_ok-trip.was, c.in_ok-arrival.was, c.in_ok-departure.was, c.in_ok-stop.was, c.in_err-sequence.was)

pub returns : goal.returns
unfolding times_placed if_there
returns c = rw (c.in_ok-trip.was, c.in_ok-arrival.was, c.in_ok-departure.was, c.in_ok-stop.was, c.in_ok-sequence.was)
