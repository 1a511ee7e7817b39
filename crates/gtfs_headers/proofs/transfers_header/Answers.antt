-- `gtfs_headers::transfers_header` meets its contract: by the places of its columns.
-- Assumes nothing.
use mathlib.Core.Path.{◌∙◌}
use Rattle.feed.specs.Columns.{from_stop_id, to_stop_id, transfer_type, min_transfer_time}
use Rattle.gtfs_headers.proofs.Placing.{header_wrong, transfers_are}
use Rattle.gtfs_headers.proofs.transfers_header.Goals as goal

pub returns-in_err-all : goal.returns-in_err-all
unfolding from_stop_id to_stop_id transfer_type min_transfer_time
returns-in_err-all c = header_wrong _ _ _ _ c.from_residual.ensures c.in_err-all.ensures.result_value

pub returns : goal.returns
unfolding from_stop_id to_stop_id transfer_type min_transfer_time
returns c =
    c.transfer_columns.ensures
    ∙ rw (c.only-from.ensures, c.only-to.ensures, c.only-kind.ensures, c.any-span.ensures) (transfers_are _ _ _ _ c.in_ok-all.ensures.result_value)
