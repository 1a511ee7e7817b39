-- "A writer puts the rows back, ids as these numbers, sequences as positions, columns in GTFS's order"
use Rattle.std.specs.Prelude.{ℕ, suc, cond, List, [], ◌∷◌, ◌++◌, eqb}
use Rattle.numbers.specs.Decimal.{digits}
use Rattle.numbers.specs.Clock.{clock_text}
use Rattle.feed.specs.Columns.{trip_id, arrival_time, departure_time, stop_id, stop_sequence, from_stop_id, to_stop_id, transfer_type, min_transfer_time}
use Rattle.feed.specs.Feed.{TimeRow, TransferRow}

-- fields with commas between, and a line feed
unfoldable pub line_with : List (List ℕ) → List ℕ
line_with [] = 10 ∷ []
line_with (t ∷ []) = t ++ (10 ∷ [])
line_with (t ∷ u ∷ ts) = t ++ (44 ∷ line_with (u ∷ ts))

-- the position of a row: one more than that of the row before, where that is of the same trip. `trips` is how many trips have appeared.
unfoldable pub position_after : ℕ → ℕ → ℕ → ℕ
position_after trips trip p = cond (eqb (suc trip) trips) (suc p) 0

unfoldable pub time_text : TimeRow → ℕ → List ℕ
time_text r p = line_with (digits r.trip ∷ clock_text r.arrival ∷ clock_text r.departure ∷ digits r.stop ∷ digits p ∷ [])

unfoldable pub times_text : List TimeRow → ℕ → ℕ → List ℕ
times_text [] trips p = []
times_text (r ∷ rs) trips p =
    let q = position_after trips r.trip p in
    time_text r q ++ times_text rs (suc r.trip) q

unfoldable pub times_header : List ℕ
times_header = line_with (trip_id ∷ arrival_time ∷ departure_time ∷ stop_id ∷ stop_sequence ∷ [])

unfoldable pub write_times : List TimeRow → List ℕ
write_times rs = times_header ++ times_text rs 0 0

-- an unstated span is an empty field
unfoldable pub span_text : ℕ → ℕ → List ℕ
span_text k x = cond (eqb k 2) (digits x) []

unfoldable pub transfer_text : TransferRow → List ℕ
transfer_text r = line_with (digits r.from ∷ digits r.to ∷ digits r.kind ∷ span_text r.kind r.span ∷ [])

unfoldable pub transfers_text : List TransferRow → List ℕ
transfers_text [] = []
transfers_text (r ∷ rs) = transfer_text r ++ transfers_text rs

unfoldable pub transfers_header : List ℕ
transfers_header = line_with (from_stop_id ∷ to_stop_id ∷ transfer_type ∷ min_transfer_time ∷ [])

unfoldable pub write_transfers : List TransferRow → List ℕ
write_transfers rs = transfers_header ++ transfers_text rs
