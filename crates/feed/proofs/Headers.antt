-- The headers that are written have every column, at its place in GTFS's order.
-- Assumes nothing.
use Prim.Native.Nat.{ℕ}
use mathlib.Core.Path.{◌≡◌, refl}
use mathlib.Core.Bool.{Bool, true, ◌&&◌}
use Rattle.std.specs.Prelude.{Some}
use mathlib.Core.List.{List, [], ◌∷◌, ◌++◌}
use lib.Dec.{ltb}
use borrow.Author.Tests.{ltb-true}
use Rattle.base.specs.Each.{Each, nil, cons}
use Rattle.base.proofs.Choice.{and_left, and_right}
use Rattle.csv_text.specs.There.{if_there}
use Rattle.csv_text.specs.Texts.{same_text}
use Rattle.csv_text.specs.Lines.{lines}
use Rattle.csv_text.specs.Fields.{fields}
use Rattle.columns.specs.Picks.{is_named, column_from, column_of}
use Rattle.feed.specs.Columns.{trip_id, arrival_time, departure_time, stop_id, stop_sequence, from_stop_id, to_stop_id, transfer_type, min_transfer_time, only_place, any_place, times_columns, transfer_columns}
use Rattle.feed.specs.Reading.{without_mark}
use Rattle.feed.specs.Writing.{line_with, times_header, transfers_header}
use Rattle.feed.proofs.Lined.{Inner}
use Rattle.feed.proofs.Fielded.{behind_commas, lines_with, fields_with}
use Rattle.feed.proofs.TimeLines.{times_places}
use Rattle.feed.proofs.TransfersBack.{transfer_places}

-- ---- bytes, by a test
all_inner : List ℕ → Bool
all_inner [] = true
all_inner (x ∷ t) = ltb 44 x && all_inner t

each_inner : (t : List ℕ) → all_inner t ≡ true → Each Inner t
unfolding all_inner
each_inner [] e = nil
each_inner (x ∷ t) e = cons (ltb-true 44 x (and_left (ltb 44 x) (all_inner t) e)) (each_inner t (and_right (ltb 44 x) (all_inner t) e))

-- ---- stop_times.txt
abbrev times_names : List (List ℕ)
times_names = arrival_time ∷ departure_time ∷ stop_id ∷ stop_sequence ∷ []

trip_inner : Each Inner trip_id
unfolding all_inner trip_id
trip_inner = each_inner trip_id refl

times_inner : Each (Each Inner) times_names
unfolding all_inner arrival_time departure_time stop_id stop_sequence
times_inner =
    cons (each_inner arrival_time refl)
    (cons (each_inner departure_time refl) (cons (each_inner stop_id refl) (cons (each_inner stop_sequence refl) nil)))

pub times_line : List ℕ
times_line = trip_id ++ behind_commas times_names

pub times_header_lem : (b : List ℕ) → lines (times_header ++ b) ≡ times_line ∷ lines b
unfolding times_header times_line
times_header_lem b = lines_with b trip_inner times_inner

named_times : times_columns (trip_id ∷ times_names) ≡ Some times_places
unfolding times_columns if_there only_place column_of column_from is_named same_text trip_id arrival_time departure_time stop_id stop_sequence
named_times = refl

pub times_columns_lem : if_there (fields times_line) times_columns ≡ Some times_places
unfolding times_line if_there
times_columns_lem = rw (fields_with trip_inner times_inner) named_times

pub times_unmarked : (b : List ℕ) → without_mark (times_header ++ b) ≡ times_header ++ b
unfolding without_mark times_header line_with trip_id
times_unmarked b = refl

-- ---- transfers.txt
abbrev transfers_names : List (List ℕ)
transfers_names = to_stop_id ∷ transfer_type ∷ min_transfer_time ∷ []

from_inner : Each Inner from_stop_id
unfolding all_inner from_stop_id
from_inner = each_inner from_stop_id refl

transfers_inner : Each (Each Inner) transfers_names
unfolding all_inner to_stop_id transfer_type min_transfer_time
transfers_inner = cons (each_inner to_stop_id refl) (cons (each_inner transfer_type refl) (cons (each_inner min_transfer_time refl) nil))

pub transfers_line : List ℕ
transfers_line = from_stop_id ++ behind_commas transfers_names

pub transfers_header_lem : (b : List ℕ) → lines (transfers_header ++ b) ≡ transfers_line ∷ lines b
unfolding transfers_header transfers_line
transfers_header_lem b = lines_with b from_inner transfers_inner

named_transfers : transfer_columns (from_stop_id ∷ transfers_names) ≡ Some transfer_places
unfolding transfer_columns if_there only_place any_place column_of column_from is_named same_text from_stop_id to_stop_id transfer_type min_transfer_time
named_transfers = refl

pub transfers_columns : if_there (fields transfers_line) transfer_columns ≡ Some transfer_places
unfolding transfers_line if_there
transfers_columns = rw (fields_with from_inner transfers_inner) named_transfers

pub transfers_unmarked : (b : List ℕ) → without_mark (transfers_header ++ b) ≡ transfers_header ++ b
unfolding without_mark transfers_header line_with from_stop_id
transfers_unmarked b = refl
