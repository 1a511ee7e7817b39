-- "header line in any column order": what a header says, by the places where its columns stand.
use Rattle.std.specs.Prelude.{ℕ, ◌<◌, ◌≡◌, List, [], length, get_or}
use Rattle.std.specs.Prelude.{None, Some}
use Rattle.csv_text.specs.Fields.{fields}
use Rattle.feed.specs.declared.TimesColumns.{TimesColumns}
use Rattle.feed.specs.declared.TransferColumns.{TransferColumns}
use Rattle.feed.specs.Columns.{trip_id, arrival_time, departure_time, stop_id, stop_sequence}
use Rattle.feed.specs.Columns.{from_stop_id, to_stop_id, transfer_type, min_transfer_time}
use Rattle.feed.specs.Held.{Unnamed}

-- a column's name stands at one place alone
pub record OnlyAt (ts : List (List ℕ)) (name : List ℕ) (i : ℕ) : Type 0 where
  pub inside : i < length ts
  pub here : get_or ts i [] ≡ name
  pub only : (j : ℕ) → j < length ts → get_or ts j [] ≡ name → j ≡ i

-- or at two
pub record AtTwo (ts : List (List ℕ)) (name : List ℕ) : Type 0 where
  pub one : ℕ
  pub other : ℕ
  pub apart : one < other
  pub inside : other < length ts
  pub here : get_or ts one [] ≡ name
  pub there : get_or ts other [] ≡ name

-- ---- the columns c are those of the header h
pub record TimesHead (h : List ℕ) (c : TimesColumns) : Type 0 where
  pub texts : List (List ℕ)
  pub are : fields h ≡ Some texts
  pub count : c.count ≡ length texts
  pub trip : OnlyAt texts trip_id c.trip
  pub arrival : OnlyAt texts arrival_time c.arrival
  pub departure : OnlyAt texts departure_time c.departure
  pub stop : OnlyAt texts stop_id c.stop
  pub sequence : OnlyAt texts stop_sequence c.sequence

-- min_transfer_time may be missing: then its place is behind the last
pub data SpanAt (ts : List (List ℕ)) (i : ℕ) : Type 0 where
  span_there : OnlyAt ts min_transfer_time i → SpanAt ts i
  span_missing : Unnamed ts min_transfer_time → i ≡ length ts → SpanAt ts i

pub record TransfersHead (h : List ℕ) (c : TransferColumns) : Type 0 where
  pub texts : List (List ℕ)
  pub are : fields h ≡ Some texts
  pub count : c.count ≡ length texts
  pub from : OnlyAt texts from_stop_id c.from
  pub to : OnlyAt texts to_stop_id c.to
  pub kind : OnlyAt texts transfer_type c.kind
  pub span : SpanAt texts c.span

-- ---- why a header is bad: a column that must stand once stands nowhere, or twice
pub data NotOnce (ts : List (List ℕ)) (name : List ℕ) : Type 0 where
  lacking : Unnamed ts name → NotOnce ts name
  doubled : AtTwo ts name → NotOnce ts name

pub data BadTimesHeader (h : List ℕ) : Type 0 where
  header_wrong : fields h ≡ None → BadTimesHeader h
  bad_trip_id : {ts : List (List ℕ)} → fields h ≡ Some ts → NotOnce ts trip_id → BadTimesHeader h
  bad_arrival_time : {ts : List (List ℕ)} → fields h ≡ Some ts → NotOnce ts arrival_time → BadTimesHeader h
  bad_departure_time : {ts : List (List ℕ)} → fields h ≡ Some ts → NotOnce ts departure_time → BadTimesHeader h
  bad_stop_id : {ts : List (List ℕ)} → fields h ≡ Some ts → NotOnce ts stop_id → BadTimesHeader h
  bad_stop_sequence : {ts : List (List ℕ)} → fields h ≡ Some ts → NotOnce ts stop_sequence → BadTimesHeader h

pub data BadTransfersHeader (h : List ℕ) : Type 0 where
  header_wrong : fields h ≡ None → BadTransfersHeader h
  bad_from_stop_id : {ts : List (List ℕ)} → fields h ≡ Some ts → NotOnce ts from_stop_id → BadTransfersHeader h
  bad_to_stop_id : {ts : List (List ℕ)} → fields h ≡ Some ts → NotOnce ts to_stop_id → BadTransfersHeader h
  bad_transfer_type : {ts : List (List ℕ)} → fields h ≡ Some ts → NotOnce ts transfer_type → BadTransfersHeader h
  bad_min_transfer_time : {ts : List (List ℕ)} → fields h ≡ Some ts → AtTwo ts min_transfer_time → BadTransfersHeader h
