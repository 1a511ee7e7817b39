-- "header line in any column order": each column that is read stands at one place of the header. Other columns are passed over.
use Rattle.std.specs.Prelude.{ℕ, List, [], ◌∷◌, length}
use Rattle.std.specs.Prelude.{Option, None, Some}
use Rattle.csv_text.specs.There.{if_there}
use Rattle.columns.specs.declared.Column.{Column}
use Rattle.columns.specs.declared.Column.TheVariants.{At, Absent, Twice}
use Rattle.columns.specs.Picks.{column_of}
use Rattle.feed.specs.declared.TimesColumns.{TimesColumns}
use Rattle.feed.specs.declared.TransferColumns.{TransferColumns}

-- ---- the columns' names, in ASCII
-- trip_id
unfoldable pub trip_id : List ℕ
trip_id = 116 ∷ 114 ∷ 105 ∷ 112 ∷ 95 ∷ 105 ∷ 100 ∷ []

-- arrival_time
unfoldable pub arrival_time : List ℕ
arrival_time = 97 ∷ 114 ∷ 114 ∷ 105 ∷ 118 ∷ 97 ∷ 108 ∷ 95 ∷ 116 ∷ 105 ∷ 109 ∷ 101 ∷ []

-- departure_time
unfoldable pub departure_time : List ℕ
departure_time = 100 ∷ 101 ∷ 112 ∷ 97 ∷ 114 ∷ 116 ∷ 117 ∷ 114 ∷ 101 ∷ 95 ∷ 116 ∷ 105 ∷ 109 ∷ 101 ∷ []

-- stop_id
unfoldable pub stop_id : List ℕ
stop_id = 115 ∷ 116 ∷ 111 ∷ 112 ∷ 95 ∷ 105 ∷ 100 ∷ []

-- stop_sequence
unfoldable pub stop_sequence : List ℕ
stop_sequence = 115 ∷ 116 ∷ 111 ∷ 112 ∷ 95 ∷ 115 ∷ 101 ∷ 113 ∷ 117 ∷ 101 ∷ 110 ∷ 99 ∷ 101 ∷ []

-- from_stop_id
unfoldable pub from_stop_id : List ℕ
from_stop_id = 102 ∷ 114 ∷ 111 ∷ 109 ∷ 95 ∷ 115 ∷ 116 ∷ 111 ∷ 112 ∷ 95 ∷ 105 ∷ 100 ∷ []

-- to_stop_id
unfoldable pub to_stop_id : List ℕ
to_stop_id = 116 ∷ 111 ∷ 95 ∷ 115 ∷ 116 ∷ 111 ∷ 112 ∷ 95 ∷ 105 ∷ 100 ∷ []

-- transfer_type
unfoldable pub transfer_type : List ℕ
transfer_type = 116 ∷ 114 ∷ 97 ∷ 110 ∷ 115 ∷ 102 ∷ 101 ∷ 114 ∷ 95 ∷ 116 ∷ 121 ∷ 112 ∷ 101 ∷ []

-- min_transfer_time
unfoldable pub min_transfer_time : List ℕ
min_transfer_time = 109 ∷ 105 ∷ 110 ∷ 95 ∷ 116 ∷ 114 ∷ 97 ∷ 110 ∷ 115 ∷ 102 ∷ 101 ∷ 114 ∷ 95 ∷ 116 ∷ 105 ∷ 109 ∷ 101 ∷ []

-- ---- their places
-- of a column that must be there, once
unfoldable pub only_place : Column → Option ℕ
only_place (At i) = Some i
only_place Absent = None
only_place Twice = None

-- none for a header that lacks one of them, or has one twice
unfoldable pub times_columns : List (List ℕ) → Option TimesColumns
times_columns ts =
    if_there (only_place (column_of trip_id ts)) (λ a.
    if_there (only_place (column_of arrival_time ts)) (λ b.
    if_there (only_place (column_of departure_time ts)) (λ c.
    if_there (only_place (column_of stop_id ts)) (λ d.
    if_there (only_place (column_of stop_sequence ts)) (λ e.
    Some (record { count = length ts; trip = a; arrival = b; departure = c; stop = d; sequence = e }))))))

-- of a column that may be missing, but does not stand twice: a missing one is behind the last, where every line's field is empty
unfoldable pub any_place : ℕ → Column → Option ℕ
any_place count (At i) = Some i
any_place count Absent = Some count
any_place count Twice = None

-- "Only transfer_type 2 gives a stated span", so the column of the spans may be missing
unfoldable pub transfer_columns : List (List ℕ) → Option TransferColumns
transfer_columns ts =
    if_there (only_place (column_of from_stop_id ts)) (λ a.
    if_there (only_place (column_of to_stop_id ts)) (λ b.
    if_there (only_place (column_of transfer_type ts)) (λ c.
    if_there (any_place (length ts) (column_of min_transfer_time ts)) (λ d.
    Some (record { count = length ts; from = a; to = b; kind = c; span = d })))))
