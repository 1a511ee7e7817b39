-- `gtfs_headers::times_header` meets its contract: by the places of its columns.
-- Assumes nothing.
use mathlib.Core.Path.{◌∙◌}
use Rattle.feed.specs.Columns.{trip_id, arrival_time, departure_time, stop_id, stop_sequence}
use Rattle.gtfs_headers.proofs.Placing.{header_wrong, times_are}
use Rattle.gtfs_headers.proofs.times_header.Goals as goal

pub returns-in_err-all : goal.returns-in_err-all
unfolding trip_id arrival_time departure_time stop_id stop_sequence
returns-in_err-all c = header_wrong _ _ _ _ c.from_residual.ensures c.in_err-all.ensures.result_value

pub returns : goal.returns
unfolding trip_id arrival_time departure_time stop_id stop_sequence
returns c =
    c.times_columns.ensures
    ∙ rw (c.only-trip.ensures, c.only-arrival.ensures, c.only-departure.ensures, c.only-stop.ensures, c.only-sequence.ensures) (times_are _ _ _ _ c.in_ok-all.ensures.result_value)
