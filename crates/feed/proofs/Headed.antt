-- A header gives its columns exactly where each that must stand once does; it is bad exactly where its fields are wrong or one does not.
-- Assumes nothing.
use Prim.Native.Nat.{ℕ}
use mathlib.Core.Path.{◌≡◌, refl, sym, ◌∙◌}
use Rattle.std.specs.Prelude.{None, Some}
use mathlib.Core.List.{List}
use lib.ListN.{length}
use Rattle.csv_text.specs.There.{if_there}
use Rattle.csv_text.specs.Fields.{fields}
use Rattle.columns.specs.Picks.{column_of}
use Rattle.feed.specs.Columns.{trip_id, arrival_time, departure_time, stop_id, stop_sequence, only_place, times_columns}
use Rattle.feed.specs.Columns.{from_stop_id, to_stop_id, transfer_type, min_transfer_time, any_place, transfer_columns}
use Rattle.feed.specs.declared.TimesColumns.{TimesColumns}
use Rattle.feed.specs.declared.TransferColumns.{TransferColumns}
use Rattle.feed.specs.Heads.{TimesHead, TransfersHead, BadTimesHeader, BadTransfersHeader}
use Rattle.feed.proofs.IfThere.{none_some, some_is, there, not_there, here_none, follows_none, from_there}
use Rattle.feed.proofs.Columned.{place_only, place_not, only_place_lem, not_place, place_span, place_two, span_place, two_place}

-- ---- stop_times.txt
module _ (h : List ℕ) where
  times_columns_bad : (ts : List (List ℕ)) → fields h ≡ Some ts → times_columns ts ≡ None → BadTimesHeader h
  unfolding times_columns
  times_columns_bad ts s e =
      not_there (only_place (column_of trip_id ts)) _ e
      (λ n. BadTimesHeader.bad_trip_id s (place_not ts trip_id n))
      (λ a x e₁.
      not_there (only_place (column_of arrival_time ts)) _ e₁
      (λ n. BadTimesHeader.bad_arrival_time s (place_not ts arrival_time n))
      (λ b y e₂.
      not_there (only_place (column_of departure_time ts)) _ e₂
      (λ n. BadTimesHeader.bad_departure_time s (place_not ts departure_time n))
      (λ c z e₃.
      not_there (only_place (column_of stop_id ts)) _ e₃
      (λ n. BadTimesHeader.bad_stop_id s (place_not ts stop_id n))
      (λ d u e₄.
      not_there (only_place (column_of stop_sequence ts)) _ e₄
      (λ n. BadTimesHeader.bad_stop_sequence s (place_not ts stop_sequence n))
      (λ v w e₅. none_some (sym e₅))))))

  pub times_header_bad : if_there (fields h) times_columns ≡ None → BadTimesHeader h
  times_header_bad e = not_there (fields h) times_columns e (λ n. BadTimesHeader.header_wrong n) times_columns_bad

  pub times_header_none : BadTimesHeader h → if_there (fields h) times_columns ≡ None
  unfolding times_columns
  times_header_none (BadTimesHeader.header_wrong e) = here_none (fields h) times_columns e
  times_header_none (BadTimesHeader.bad_trip_id {ts} s n) = from_there _ s ∙ (here_none (only_place (column_of trip_id ts)) _ (not_place ts trip_id n))
  times_header_none (BadTimesHeader.bad_arrival_time {ts} s n) =
      from_there _ s
      ∙ (follows_none (only_place (column_of trip_id ts)) _ λ a. here_none (only_place (column_of arrival_time ts)) _ (not_place ts arrival_time n))
  times_header_none (BadTimesHeader.bad_departure_time {ts} s n) =
      from_there _ s
      ∙ (follows_none (only_place (column_of trip_id ts)) _ λ a.
      follows_none (only_place (column_of arrival_time ts)) _ λ b. here_none (only_place (column_of departure_time ts)) _ (not_place ts departure_time n))
  times_header_none (BadTimesHeader.bad_stop_id {ts} s n) =
      from_there _ s
      ∙ (follows_none (only_place (column_of trip_id ts)) _ λ a.
      follows_none (only_place (column_of arrival_time ts)) _ λ b.
      follows_none (only_place (column_of departure_time ts)) _ λ c. here_none (only_place (column_of stop_id ts)) _ (not_place ts stop_id n))
  times_header_none (BadTimesHeader.bad_stop_sequence {ts} s n) =
      from_there _ s
      ∙ (follows_none (only_place (column_of trip_id ts)) _ λ a.
      follows_none (only_place (column_of arrival_time ts)) _ λ b.
      follows_none (only_place (column_of departure_time ts)) _ λ c.
      follows_none (only_place (column_of stop_id ts)) _ λ d. here_none (only_place (column_of stop_sequence ts)) _ (not_place ts stop_sequence n))

  pub times_head : {c : TimesColumns} → if_there (fields h) times_columns ≡ Some c → TimesHead h c
  unfolding times_columns
  times_head e =
      let t = there (fields h) times_columns e in
      let ts = t.0 in
      let a = there (only_place (column_of trip_id ts)) _ t.2 in
      let b = there (only_place (column_of arrival_time ts)) _ a.2 in
      let d = there (only_place (column_of departure_time ts)) _ b.2 in
      let s = there (only_place (column_of stop_id ts)) _ d.2 in
      let q = there (only_place (column_of stop_sequence ts)) _ s.2 in
      rw (← (some_is q.2))
      (record {
        texts = ts;
        are = t.1;
        count = refl;
        trip = place_only ts trip_id a.1;
        arrival = place_only ts arrival_time b.1;
        departure = place_only ts departure_time d.1;
        stop = place_only ts stop_id s.1;
        sequence = place_only ts stop_sequence q.1;
      })

  pub head_times : {c : TimesColumns} → TimesHead h c → if_there (fields h) times_columns ≡ Some c
  unfolding if_there times_columns
  head_times k =
      let ts = k.texts in
      rw (
        k.are,
        only_place_lem ts trip_id k.trip,
        only_place_lem ts arrival_time k.arrival,
        only_place_lem ts departure_time k.departure,
        only_place_lem ts stop_id k.stop,
        only_place_lem ts stop_sequence k.sequence,
        ← k.count,
      )

  -- ---- transfers.txt
  pub transfers_head : {c : TransferColumns} → if_there (fields h) transfer_columns ≡ Some c → TransfersHead h c
  unfolding transfer_columns
  transfers_head e =
      let t = there (fields h) transfer_columns e in
      let ts = t.0 in
      let a = there (only_place (column_of from_stop_id ts)) _ t.2 in
      let b = there (only_place (column_of to_stop_id ts)) _ a.2 in
      let k = there (only_place (column_of transfer_type ts)) _ b.2 in
      let s = there (any_place (length ts) (column_of min_transfer_time ts)) _ k.2 in
      rw (← (some_is s.2))
      (record {
        texts = ts;
        are = t.1;
        count = refl;
        from = place_only ts from_stop_id a.1;
        to = place_only ts to_stop_id b.1;
        kind = place_only ts transfer_type k.1;
        span = place_span ts s.1;
      })

  pub head_transfers : {c : TransferColumns} → TransfersHead h c → if_there (fields h) transfer_columns ≡ Some c
  unfolding if_there transfer_columns
  head_transfers k =
      let ts = k.texts in
      rw (
        k.are,
        only_place_lem ts from_stop_id k.from,
        only_place_lem ts to_stop_id k.to,
        only_place_lem ts transfer_type k.kind,
        span_place ts k.span,
        ← k.count,
      )

  transfer_columns_bad : (ts : List (List ℕ)) → fields h ≡ Some ts → transfer_columns ts ≡ None → BadTransfersHeader h
  unfolding transfer_columns
  transfer_columns_bad ts s e =
      not_there (only_place (column_of from_stop_id ts)) _ e
      (λ n. BadTransfersHeader.bad_from_stop_id s (place_not ts from_stop_id n))
      (λ a x e₁.
      not_there (only_place (column_of to_stop_id ts)) _ e₁
      (λ n. BadTransfersHeader.bad_to_stop_id s (place_not ts to_stop_id n))
      (λ b y e₂.
      not_there (only_place (column_of transfer_type ts)) _ e₂
      (λ n. BadTransfersHeader.bad_transfer_type s (place_not ts transfer_type n))
      (λ c z e₃.
      not_there (any_place (length ts) (column_of min_transfer_time ts)) _ e₃
      (λ n. BadTransfersHeader.bad_min_transfer_time s (place_two ts n))
      (λ v w e₄. none_some (sym e₄)))))

  pub transfers_header_bad : if_there (fields h) transfer_columns ≡ None → BadTransfersHeader h
  transfers_header_bad e = not_there (fields h) transfer_columns e (λ n. BadTransfersHeader.header_wrong n) transfer_columns_bad

  pub transfers_header_none : BadTransfersHeader h → if_there (fields h) transfer_columns ≡ None
  unfolding transfer_columns
  transfers_header_none (BadTransfersHeader.header_wrong e) = here_none (fields h) transfer_columns e
  transfers_header_none (BadTransfersHeader.bad_from_stop_id {ts} s n) =
      from_there _ s ∙ (here_none (only_place (column_of from_stop_id ts)) _ (not_place ts from_stop_id n))
  transfers_header_none (BadTransfersHeader.bad_to_stop_id {ts} s n) =
      from_there _ s
      ∙ (follows_none (only_place (column_of from_stop_id ts)) _ λ a. here_none (only_place (column_of to_stop_id ts)) _ (not_place ts to_stop_id n))
  transfers_header_none (BadTransfersHeader.bad_transfer_type {ts} s n) =
      from_there _ s
      ∙ (follows_none (only_place (column_of from_stop_id ts)) _ λ a.
      follows_none (only_place (column_of to_stop_id ts)) _ λ b. here_none (only_place (column_of transfer_type ts)) _ (not_place ts transfer_type n))
  transfers_header_none (BadTransfersHeader.bad_min_transfer_time {ts} s n) =
      from_there _ s
      ∙ (follows_none (only_place (column_of from_stop_id ts)) _ λ a.
      follows_none (only_place (column_of to_stop_id ts)) _ λ b.
      follows_none (only_place (column_of transfer_type ts)) _ λ c. here_none (any_place (length ts) (column_of min_transfer_time ts)) _ (two_place ts n))
