-- The header, before any row: where there is none or a bad one nothing is taken; behind it the rows are read.
-- Assumes nothing.
use Prim.Native.Nat.{ℕ, ◌≤◌}
use mathlib.Core.Path.{◌≡◌, refl, sym, ap, ◌∙◌}
use Rattle.std.specs.Prelude.{Option, None, Some, Err}
use mathlib.Core.List.{List}
use native.Mathlib.Omega.{arith}
use lib.ListN.{length, drop, drop_of_length-le}
use Rattle.base.specs.Put.{with_bytes}
use Rattle.csv_text.specs.There.{if_there}
use Rattle.csv_text.specs.Part.{part}
use Rattle.csv_text.specs.Fields.{fields}
use Rattle.csv_text.specs.Lines.{lines}
use Rattle.csv_text.specs.declared.TextLine.{TextLine}
use Rattle.csv_text.specs.Read.{LineAt}
use Rattle.csv_text.proofs.Stepping.{lines_none}
use Rattle.names.specs.Book.{names_in}
use Rattle.names.specs.Booked.{Booked}
use Rattle.names.proofs.Booking.{booked_count, booked_turn}
use Rattle.feed.specs.declared.Room.{Room}
use Rattle.feed.specs.declared.TransferColumns.{TransferColumns}
use Rattle.feed.specs.declared.Unread.TheVariants.{Bad}
use Rattle.feed.specs.Feed.{bad_transfers}
use Rattle.feed.specs.Columns.{transfer_columns}
use Rattle.feed.specs.Transfers.{transfers_under, read_transfers}
use Rattle.feed.specs.Reading.{without_mark}
use Rattle.feed.specs.Rows.{flat_by, flat_transfers}
use Rattle.feed.specs.Ending.{ending_of}
use Rattle.gtfs_rows.proofs.Naming.{booked_here}
use Rattle.gtfs_transfers.specs.declared.TransfersTold.{TransfersTold}
use Rattle.gtfs_transfers.specs.Told.{transfers_told, paths_told_at, stops_only, first_shelf, turned_shelf, transfers_read, rows_read, paths_left, TransfersLeft, PathsLent, PathsBegin}

module _ {room : Room} {counted : ℕ} {first second p s : List ℕ} (l : PathsLent room counted first second p s) where
  -- the second file begins
  held : Booked first second (turned_shelf room counted) s s (names_in first first (first_shelf room counted) s)
  held = booked_turn second (booked_here l.book)

  many : counted ≡ length (names_in first first (first_shelf room counted) s)
  many = booked_count held

  -- line 1 is bad
  module _ (q : transfers_read room counted first second s
      ≡ record { feed = stops_only (names_in first first (first_shelf room counted) s); end = bad_transfers 1 }) where
    told : {y : TransfersTold} → y ≡ paths_told_at (record { split = counted; stops = counted; transfers = 0 }) (Err (Bad 1))
        → y ≡ transfers_told (transfers_read room counted first second s)
    unfolding transfers_told paths_told_at ending_of
    told e = e ∙ rw (q, ← many)

    left : TransfersLeft room counted first second (transfers_read room counted first second s) p s p s
    unfolding paths_left with_bytes flat_transfers flat_by
    left = rw q (record { paths_left_lem = refl; stops_left_lem = rw (← many) held })

  module _ {a : ℕ} (ea : drop a second ≡ without_mark second) where
    module _ (h : length second ≤ a) where
      none_here : transfers_read room counted first second s
          ≡ record { feed = stops_only (names_in first first (first_shelf room counted) s); end = bad_transfers 1 }
      unfolding transfers_read read_transfers
      none_here = rw (← ea, drop_of_length-le second h, lines_none)

      pub none_told : {y : TransfersTold} → y ≡ paths_told_at (record { split = counted; stops = counted; transfers = 0 }) (Err (Bad 1))
          → y ≡ transfers_told (transfers_read room counted first second s)
      none_told e = told none_here e

      pub none_left : TransfersLeft room counted first second (transfers_read room counted first second s) p s p s
      none_left = left none_here

    -- the header's line
    module _ {r : TextLine} (k : LineAt second a r) {x : Option TransferColumns}
        (ex : x ≡ if_there (fields (part a r.end second)) transfer_columns) where
      under : transfers_read room counted first second s
          ≡ transfers_under room x (lines (drop r.next second))
          (stops_only (names_in first first (first_shelf room counted) s))
      unfolding transfers_read read_transfers
      under = rw (← ea, k.parted, ex)

      bad_here : x ≡ None → transfers_read room counted first second s
          ≡ record { feed = stops_only (names_in first first (first_shelf room counted) s); end = bad_transfers 1 }
      unfolding transfers_under
      bad_here w = under ∙ rw w

      pub head_told : x ≡ None → {y : TransfersTold} → y ≡ paths_told_at (record { split = counted; stops = counted; transfers = 0 }) (Err (Bad 1))
          → y ≡ transfers_told (transfers_read room counted first second s)
      head_told w f = told (bad_here w) f

      pub head_left : x ≡ None → TransfersLeft room counted first second (transfers_read room counted first second s) p s p s
      head_left w = left (bad_here w)

      -- the rows
      module _ {c : TransferColumns} (w : x ≡ Some c) where
        rows_here : transfers_read room counted first second s ≡ rows_read room c counted r.next first second s
        unfolding transfers_under rows_read
        rows_here = under ∙ rw (w, held.texts)

        pub rows_told : {y : TransfersTold} → y ≡ transfers_told (rows_read room c counted r.next first second s)
            → y ≡ transfers_told (transfers_read room counted first second s)
        rows_told f = f ∙ ap transfers_told (sym rows_here)

        pub rows_left : {p' s' : List ℕ} → TransfersLeft room counted first second (rows_read room c counted r.next first second s) p s p' s'
            → TransfersLeft room counted first second (transfers_read room counted first second s) p s p' s'
        rows_left f = rw rows_here f

  pub begins : {a : ℕ} {r : TextLine} → LineAt second a r → PathsBegin room counted r.next first second p s
  begins k = record {
    book = held.book;
    short = l.short;
    rows = l.rows;
    headed = omega (arith, k.further);
    inside = k.within;
  }
