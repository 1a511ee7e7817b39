-- Rows read one by one: those that stand in the table and what is left of the file say what all of them are.
-- Assumes nothing.
use Prim.Native.Nat.{ℕ, suc, ◌+◌, ◌≤◌, ◌<◌}
use mathlib.Core.Path.{◌≡◌, refl, sym, ap, ◌∙◌}
use Rattle.std.specs.Prelude.{Option, None, Some, Ok, Err}
use mathlib.Core.List.{List, [], ◌∷◌}
use native.Mathlib.Omega.{arith}
use lib.ListN.{length, drop, drop_of_length-le}
use Rattle.base.specs.Put.{with_bytes}
use Rattle.csv_text.specs.Part.{part}
use Rattle.csv_text.specs.Lines.{lines}
use Rattle.csv_text.specs.declared.TextLine.{TextLine}
use Rattle.csv_text.specs.Read.{LineAt}
use Rattle.csv_text.proofs.Stepping.{lines_none}
use Rattle.columns.specs.Picks.{text_at}
use Rattle.names.specs.Book.{names_in}
use Rattle.names.specs.Booked.{Booked}
use Rattle.names.proofs.Booking.{booked_count}
use Rattle.feed.specs.declared.Room.{Room}
use Rattle.feed.specs.declared.TransferColumns.{TransferColumns}
use Rattle.feed.specs.declared.TransferSpans.{TransferSpans}
use Rattle.feed.specs.declared.Unread.TheVariants.{Bad, Full}
use Rattle.feed.specs.Feed.{TransferRow, Feed, End, done, bad_transfers, full, Got}
use Rattle.feed.specs.Transfers.{transfer_line, take_transfer, transfers_from}
use Rattle.feed.specs.Spans.{transfer_at}
use Rattle.feed.specs.Rows.{flat_by, transfer_words, flat_transfers}
use Rattle.feed.proofs.Stopping.{transfer_none, transfer_full, transfer_goes}
use Rattle.feed.proofs.Naming.{seen_least}
use Rattle.feed.proofs.Rows.{flat_transfers_length, flat_transfers_append}
use Rattle.feed.specs.Orderly.{seen_after}
use Rattle.feed.specs.Ending.{ending_of}
use Rattle.gtfs_rows.proofs.Naming.{booked_here, booked_on}
use Rattle.gtfs_rows.proofs.Filling.{Filling, filling_start, filling_length, number_fits, row_more}
use Rattle.gtfs_paths.specs.declared.PathsReached.{PathsReached}
use Rattle.gtfs_paths.specs.declared.PathNumbers.{PathNumbers}
use Rattle.gtfs_transfers.specs.declared.TransfersTold.{TransfersTold}
use Rattle.gtfs_paths.specs.Taking.{with_transfer, path_shelf, after_path, PathTakeable, path_in, path_took_by, PathLeftBy, PathTakes}
use Rattle.gtfs_lines.specs.Values.{transfer_read, TransferSpanned}
use Rattle.gtfs_transfers.specs.Told.{transfers_told, paths_told_at, rows_read, paths_left, stops_only, turned_shelf, TransfersLeft, PathsBegin}
use Rattle.gtfs_paths.proofs.Taking.{Fits, plan_fits, Plans, plan_right}

-- the next line begins at i, and so much was reached
pub record Pacing (first second : List ℕ) (c : TransferColumns) (room : Room) (cut : ℕ) (whole : Got) (p₀ s₀ : List ℕ) (i : ℕ) (at : PathsReached)
    (p s : List ℕ) : Type 0 where
  feed : Feed
  rest : transfers_from c room (at.transfers + 2) (lines (drop i second)) feed ≡ whole
  held : Booked first second (path_shelf room at) s₀ s feed.stops
  filling : Filling second room.transfers p₀ i at.transfers (flat_transfers feed.transfers) p
  turned : at.split ≤ at.stops
  cut_is : at.split ≡ cut

row_words : (r : TransferRow) → flat_transfers (r ∷ []) ≡ r.from ∷ r.to ∷ r.kind ∷ r.span ∷ []
unfolding flat_transfers flat_by transfer_words
row_words r = refl

pub pacing_start : {first second p s : List ℕ} (c : TransferColumns) {room : Room} {cut i : ℕ} → PathsBegin room cut i first second p s
    → Pacing first second c room cut (rows_read room c cut i first second s) p s i (record { split = cut; stops = cut; transfers = 0 }) p s
unfolding rows_read flat_transfers flat_by
pacing_start {first} {second} {p} {s} c {room} {cut} {i} k = record {
  feed = stops_only (names_in first second (turned_shelf room cut) s);
  rest = refl;
  held = booked_here k.book;
  filling = filling_start k.rows k.headed k.inside k.short;
  turned = omega arith;
  cut_is = refl;
}

-- ---- the loop
module _ {first second : List ℕ} {c : TransferColumns} {room : Room} {cut : ℕ} {whole : Got} {p₀ s₀ : List ℕ} {i : ℕ} {at : PathsReached}
    {p s : List ℕ} (g : Pacing first second c room cut whole p₀ s₀ i at p s) where
  counted : length g.feed.transfers ≡ at.transfers
  counted = omega (arith, g.filling.rows, flat_transfers_length g.feed.transfers)

  -- a reading that ends here
  module _ (z : End) (q : transfers_from c room (at.transfers + 2) (lines (drop i second)) g.feed ≡ record { feed = g.feed; end = z }) where
    whole_is : record { feed = g.feed; end = z } ≡ whole
    whole_is = sym q ∙ g.rest

    told : {y : TransfersTold} → y ≡ paths_told_at at (ending_of z) → y ≡ transfers_told whole
    unfolding transfers_told paths_told_at
    told e = let a : at.stops ≡ length g.feed.stops = booked_count g.held in e ∙ rw (← whole_is, a, ← counted)

    left_paths : p ≡ with_bytes p₀ 0 (flat_transfers whole.feed.transfers)
    left_paths = g.filling.held ∙ ap (λ (y : Got). with_bytes p₀ 0 (flat_transfers y.feed.transfers)) whole_is

    left_stops : Booked first second (paths_left room cut whole) s₀ s whole.feed.stops
    unfolding paths_left
    left_stops =
        let a : at.stops ≡ length g.feed.stops = booked_count g.held in
        rw (← whole_is, ← a, ← g.cut_is) g.held

    left : TransfersLeft room cut first second whole p₀ s₀ p s
    left = record { paths_left_lem = left_paths; stops_left_lem = left_stops }

  -- the lines are at their end
  module _ (h : length second ≤ i) where
    end_here : transfers_from c room (at.transfers + 2) (lines (drop i second)) g.feed ≡ record { feed = g.feed; end = done }
    unfolding transfers_from
    end_here = rw (drop_of_length-le second h, lines_none)

    pub done_told : {y : TransfersTold} → y ≡ paths_told_at at (Ok tt) → y ≡ transfers_told whole
    unfolding ending_of
    done_told k = told done end_here k

    pub done_left : TransfersLeft room cut first second whole p₀ s₀ p s
    done_left = left done end_here

  -- a line
  -- its number fits 32 bits
  pub line_fits : i < length second → at.transfers + 2 ≤ 4_294_967_295
  line_fits h = number_fits g.filling h

  module _ {r : TextLine} (k : LineAt second i r) {j : Option TransferSpans} (o : transfer_read second j ≡ transfer_line c (part i r.end second)) where
    module _ (w : j ≡ None) where
      bad_here : transfers_from c room (at.transfers + 2) (lines (drop i second)) g.feed
          ≡ record { feed = g.feed; end = bad_transfers (at.transfers + 2) }
      unfolding transfer_read
      bad_here =
          let q : transfer_line c (part i r.end second) ≡ None = sym o ∙ ap (transfer_read second) w in
          rw k.parted (transfer_none c room (at.transfers + 2) (part i r.end second) (lines (drop r.next second)) g.feed q)

      pub bad_told : {y : TransfersTold} → y ≡ paths_told_at at (Err (Bad (at.transfers + 2))) → y ≡ transfers_told whole
      unfolding ending_of
      bad_told f = told (bad_transfers (at.transfers + 2)) bad_here f

      pub bad_left : TransfersLeft room cut first second whole p₀ s₀ p s
      bad_left = left (bad_transfers (at.transfers + 2)) bad_here

    module _ {v : TransferSpans} (w : j ≡ Some v) where
      q : transfer_line c (part i r.end second) ≡ Some (transfer_at second v)
      unfolding transfer_read
      q = sym o ∙ ap (transfer_read second) w

      pub takeable : i < length second → TransferSpanned second j → PathTakeable first second room at v p s
      takeable h y =
          let o : TransferSpanned second (Some v) = rw w at y in
          record {
            book = g.held.book;
            near_text = o.0;
            far_text = o.1;
            short = g.filling.short;
            turned = g.turned;
            rows = omega (arith, filling_length g.filling, g.filling.room);
            row_next = omega (arith, line_fits h);
          }

      right : Plans room (transfer_at second v) g.feed (take_transfer room (transfer_at second v) g.feed) (path_in first second room at v s)
      unfolding transfer_at path_in
      right =
          rw (g.held.texts, ← counted)
          (plan_right room (transfer_at second v) g.feed (omega (arith, booked_count g.held, g.held.book.few)))

      -- a row that is taken
      module _ (e : PathNumbers) {p' s' : List ℕ} (n : take_transfer room (transfer_at second v) g.feed ≡ Some (with_transfer g.feed (transfer_at second v) e.from e.to))
          (fit : Fits room (names_in first second (path_shelf room at) s) at.transfers (Some e))
          (l : PathLeftBy first second room at v (Some e) p s p' s') where
        row : TransferRow
        row = record { from = e.from; to = e.to; kind = v.kind; span = v.span }

        grown : at.stops ≤ seen_after (seen_after at.stops e.from) e.to
        grown = omega (arith, seen_least at.stops e.from, seen_least (seen_after at.stops e.from) e.to)

        row_on : Pacing first second c room cut whole p₀ s₀ r.next (after_path at (record { from = e.from; to = e.to; line = v })) p' s'
        unfolding after_path with_transfer transfer_at row
        row_on = record {
          feed = with_transfer g.feed (transfer_at second v) e.from e.to;
          rest =
              (let line : at.transfers + 1 + 2 ≡ suc (at.transfers + 2) = omega arith in
              rw line
              (sym (transfer_goes c room (at.transfers + 2) (part i r.end second) (lines (drop r.next second)) g.feed q n)
              ∙ ap (λ (ls : List (List ℕ)). transfers_from c room (at.transfers + 2) ls g.feed) (sym k.parted)
              ∙ g.rest));
          held = booked_on g.held (rw g.held.texts at l.1) grown;
          filling =
              rw (flat_transfers_append g.feed.transfers (row ∷ []), row_words row)
              (row_more g.filling k fit.4 (e.from ∷ e.to ∷ v.kind ∷ v.span ∷ []) refl l.0);
          turned = omega (arith, g.turned, grown);
          cut_is = g.cut_is;
        }

      -- by the plan
      full_by : (d : Option PathNumbers) {y : Option PathsReached} → Plans room (transfer_at second v) g.feed (take_transfer room (transfer_at second v) g.feed) d
          → y ≡ path_took_by at v d → y ≡ None
          → transfers_from c room (at.transfers + 2) (lines (drop i second)) g.feed ≡ record { feed = g.feed; end = full }
      unfolding path_took_by
      full_by (Some d) n e f = let z : ◌≡◌ {A = ℕ} 0 1 = cc in absurd (omega arith)
      full_by None n e f = rw k.parted (transfer_full c room (at.transfers + 2) (part i r.end second) (lines (drop r.next second)) g.feed q n)

      module _ {y : Option PathsReached} {p' s' : List ℕ} (t : PathTakes first second room at v y p s p' s') where
        full_here : y ≡ None → transfers_from c room (at.transfers + 2) (lines (drop i second)) g.feed ≡ record { feed = g.feed; end = full }
        full_here f = full_by (path_in first second room at v s) right t.said f

        pub full_told : y ≡ None → {z : TransfersTold} → z ≡ paths_told_at at (Err Full) → z ≡ transfers_told whole
        unfolding ending_of
        full_told f e = told full (full_here f) e

        pub full_left : y ≡ None → TransfersLeft room cut first second whole p₀ s₀ p' s'
        unfolding path_took_by
        full_left f =
            let u : (p' ≡ p) × (s' ≡ s) = kept_by (path_in first second room at v s) t.said f t.left in
            rw (u.0, u.1) (left full (full_here f))
          where
            kept_by : (d : Option PathNumbers) → y ≡ path_took_by at v d → y ≡ None → PathLeftBy first second room at v d p s p' s' → (p' ≡ p) × (s' ≡ s)
            kept_by (Some d) e f l = let z : ◌≡◌ {A = ℕ} 0 1 = cc in absurd (omega arith)
            kept_by None e f l = l

        pub pacing_on : (at' : PathsReached) → y ≡ Some at' → Pacing first second c room cut whole p₀ s₀ r.next at' p' s'
        unfolding path_in path_took_by
        pacing_on at' f =
            on_by at' (path_in first second room at v s) right
            (plan_fits room (names_in first second (path_shelf room at) s) at.transfers (text_at second v.from) (text_at second v.to))
            t.said f t.left
          where
            on_by : (at' : PathsReached) (d : Option PathNumbers) → Plans room (transfer_at second v) g.feed (take_transfer room (transfer_at second v) g.feed) d
                → Fits room (names_in first second (path_shelf room at) s) at.transfers d → y ≡ path_took_by at v d → y ≡ Some at'
                → PathLeftBy first second room at v d p s p' s' → Pacing first second c room cut whole p₀ s₀ r.next at' p' s'
            on_by at' (Some d) n w e f l =
                let z : at' ≡ after_path at (record { from = d.from; to = d.to; line = v }) = cc in
                rw z (row_on d n w l)
            on_by at' None n w e f l = let z : ◌≡◌ {A = ℕ} 0 1 = cc in absurd (omega arith)
