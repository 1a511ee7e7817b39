-- What the writer of stop times answers, worked by computation.
-- Assumes nothing.
use mathlib.Core.Path.{◌≡◌, refl}
use mathlib.Core.List.{[], ◌∷◌}
use Rattle.numbers.specs.Decimal.{digits_in, digits}
use Rattle.numbers.specs.Clock.{two_digits, clock_text}
use Rattle.feed.specs.Columns.{trip_id, arrival_time, departure_time, stop_id, stop_sequence}
use Rattle.feed.specs.Orderly.{seen_after, stop_fits, trip_fits, is_moment, time_fault, after_time, times_fault}
use Rattle.feed.specs.Rows.{fours_in, time_with, time_rows_in}
use Rattle.feed.specs.Writing.{line_with, position_after, time_text, times_text, times_header, write_times}
use Rattle.std.specs.Prelude.{Ok, Err}
use Rattle.gtfs_write.specs.Written.{whole_rows, answered}
use Rattle.gtfs_write_times.specs.WrittenTimes.{written_times}

pub times_answered :
    -- no row: the header alone
    (written_times [] 58 ≡ Ok 58)
    × (written_times [] 57 ≡ Err 15)
    -- "0,08:05:00,08:05:00,0,0"
    × (written_times (0 ∷ 0 ∷ 115_500 ∷ 115_500 ∷ []) 82 ≡ Ok 82)
    × (written_times (0 ∷ 0 ∷ 115_500 ∷ 115_500 ∷ []) 81 ≡ Err 15)
    -- a row cut short
    × (written_times (0 ∷ 0 ∷ 115_500 ∷ []) 82 ≡ Err 1)
    -- stop 1 before stop 0, and trip 0 once more behind trip 1
    × (written_times (0 ∷ 1 ∷ 115_500 ∷ 115_500 ∷ []) 82 ≡ Err 2)
    × (written_times
    (0 ∷ 0 ∷ 115_500 ∷ 115_500 ∷ 1 ∷ 0 ∷ 115_500 ∷ 115_500 ∷ 0 ∷ 0 ∷ 115_500 ∷ 115_500 ∷ [])
    200
    ≡ Err 2)
    -- a second before midnight, and 100:00:00
    × (written_times (0 ∷ 0 ∷ 86_399 ∷ 115_500 ∷ []) 82 ≡ Err 3)
    × (written_times (0 ∷ 0 ∷ 115_500 ∷ 446_400 ∷ []) 82 ≡ Err 3)
    -- the first row at fault decides
    × (written_times (0 ∷ 0 ∷ 86_399 ∷ 115_500 ∷ 5 ∷ 5 ∷ 115_500 ∷ 115_500 ∷ []) 0 ≡ Err 3)
unfolding written_times answered whole_rows times_fault time_fault stop_fits trip_fits is_moment after_time seen_after time_rows_in fours_in time_with write_times times_header line_with trip_id arrival_time departure_time stop_id stop_sequence times_text time_text position_after digits digits_in clock_text two_digits
times_answered = (refl, refl, refl, refl, refl, refl, refl, refl, refl, refl)
