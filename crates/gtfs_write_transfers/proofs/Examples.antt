-- What the writer of transfers answers, worked by computation.
-- Assumes nothing.
use mathlib.Core.Path.{◌≡◌, refl}
use mathlib.Core.List.{[], ◌∷◌}
use Rattle.numbers.specs.Decimal.{digits_in, digits}
use Rattle.feed.specs.Columns.{from_stop_id, to_stop_id, transfer_type, min_transfer_time}
use Rattle.feed.specs.Orderly.{seen_after, stop_fits, fits_span, transfer_fault, after_transfer, transfers_fault}
use Rattle.feed.specs.Rows.{fours_in, transfer_with, transfer_rows_in}
use Rattle.feed.specs.Writing.{line_with, span_text, transfer_text, transfers_text, transfers_header, write_transfers}
use Rattle.std.specs.Prelude.{Ok, Err}
use Rattle.gtfs_write.specs.Written.{whole_rows, answered}
use Rattle.gtfs_write_transfers.specs.WrittenTransfers.{written_transfers}

pub transfers_answered :
    -- no row: the header alone
    (written_transfers [] 0 56 ≡ Ok 56)
    × (written_transfers [] 0 55 ≡ Err 15)
    -- "0,1,2,90", and "0,1,3," where no span is stated
    × (written_transfers (0 ∷ 1 ∷ 2 ∷ 90 ∷ []) 0 65 ≡ Ok 65)
    × (written_transfers (0 ∷ 1 ∷ 3 ∷ 4_294_967_295 ∷ []) 0 63 ≡ Ok 63)
    -- a row cut short
    × (written_transfers (0 ∷ 1 ∷ 2 ∷ []) 0 65 ≡ Err 1)
    -- stop 1 where no stop has appeared, and where stop 0 has
    × (written_transfers (1 ∷ 0 ∷ 2 ∷ 90 ∷ []) 0 65 ≡ Err 2)
    × (written_transfers (1 ∷ 0 ∷ 2 ∷ 90 ∷ []) 1 65 ≡ Ok 65)
    -- type 2 with no span, type 0 with one, type 6
    × (written_transfers (0 ∷ 1 ∷ 2 ∷ 4_294_967_295 ∷ []) 0 65 ≡ Err 5)
    × (written_transfers (0 ∷ 1 ∷ 0 ∷ 90 ∷ []) 0 65 ≡ Err 5)
    × (written_transfers (0 ∷ 1 ∷ 6 ∷ 4_294_967_295 ∷ []) 0 65 ≡ Err 5)
unfolding written_transfers answered whole_rows transfers_fault transfer_fault stop_fits fits_span after_transfer seen_after transfer_rows_in fours_in transfer_with write_transfers transfers_header line_with from_stop_id to_stop_id transfer_type min_transfer_time transfers_text transfer_text span_text digits digits_in
transfers_answered = (refl, refl, refl, refl, refl, refl, refl, refl, refl, refl)
