-- Rows read one by one: those that stand in the tables and what is left of the file say what all of them are.
-- Assumes nothing.
use Prim.Native.Nat.{ℕ, suc, ◌+◌, ◌≤◌, ◌<◌}
use mathlib.Core.Path.{◌≡◌, refl, sym, ap, subst, ◌∙◌}
use Rattle.std.specs.Prelude.{Option, None, Some, Result, Ok, Err}
use mathlib.Core.List.{List, [], ◌∷◌}
use native.Mathlib.Omega.{arith}
use lib.ListN.{length, drop, drop_of_length-le}
use Rattle.base.specs.Tab.{tab}
use Rattle.base.specs.Put.{with_bytes}
use Rattle.csv_text.specs.Part.{part}
use Rattle.csv_text.specs.Lines.{lines}
use Rattle.csv_text.specs.declared.TextLine.{TextLine}
use Rattle.csv_text.specs.Read.{LineAt}
use Rattle.csv_text.proofs.Stepping.{lines_none}
use Rattle.names.specs.Book.{Book, names_in}
use Rattle.names.specs.Booked.{Booked}
use Rattle.names.proofs.Booking.{booked_count}
use Rattle.feed.specs.declared.Room.{Room}
use Rattle.feed.specs.declared.TimesColumns.{TimesColumns}
use Rattle.feed.specs.declared.TimeSpans.{TimeSpans}
use Rattle.feed.specs.declared.Unread.TheVariants.{Bad as BadLine, Full as Filled}
use Rattle.feed.specs.Feed.{TimeRow, Feed, empty_feed, End, done, bad_times, full, Got}
use Rattle.feed.specs.Times.{time_line, take_time, times_from}
use Rattle.feed.specs.Spans.{time_at}
use Rattle.feed.specs.Rows.{flat_by, time_words, flat_times}
use Rattle.feed.proofs.Stopping.{time_none, time_bad, time_full, time_goes}
use Rattle.feed.proofs.Rows.{flat_times_length, flat_times_append}
use Rattle.feed.specs.Ending.{ending_of}
use Rattle.gtfs_lines.specs.Values.{time_read, TimeSpanned}
use Rattle.feed.proofs.Naming.{seen_least}
use Rattle.gtfs_rows.specs.declared.times.Numbers.{Numbers}
use Rattle.gtfs_rows.specs.declared.times.Fault.{Fault}
use Rattle.gtfs_rows.specs.declared.times.Fault.TheVariants.{Bad, Full}
use Rattle.gtfs_rows.specs.declared.times.Reached.{Reached}
use Rattle.gtfs_rows.specs.Taking.{with_time, stop_shelf, trip_shelf, after_entry, Takeable, plan_in, took_by, LeftBy, Takes}
use Rattle.gtfs_rows.proofs.Taking.{Plans, plan_right}
use Rattle.gtfs_rows.proofs.Naming.{booked_on}
use Rattle.gtfs_rows.proofs.Filling.{Filling, filling_start, filling_length, number_fits, row_more}
use Rattle.gtfs_times.specs.declared.TimesTold.{TimesTold}
use Rattle.gtfs_times.specs.Told.{times_told, told_at, TimesRoom, no_names, stops_left, trips_left, TimesLeft}

-- the next line begins at i, and so much was reached
pub record Going (b : List ℕ) (c : TimesColumns) (room : Room) (whole : Got) (x₀ s₀ t₀ : List ℕ) (i : ℕ) (at : Reached) (x s t : List ℕ) : Type 0 where
  feed : Feed
  rest : times_from c room (at.times + 2) (lines (drop i b)) feed at.last ≡ whole
  stops_held : Booked b b (stop_shelf room at) s₀ s feed.stops
  trips_held : Booked b b (trip_shelf room at) t₀ t feed.trips
  filling : Filling b room.times x₀ i at.times (flat_times feed.times) x
  small : room.times ≤ 4_294_967_295

row_words : (r : TimeRow) → flat_times (r ∷ []) ≡ r.trip ∷ r.stop ∷ r.arrival ∷ r.departure ∷ []
unfolding flat_times flat_by time_words
row_words r = refl

-- ---- the loop
module _ {b : List ℕ} {c : TimesColumns} {room : Room} {whole : Got} {x₀ s₀ t₀ : List ℕ} {i : ℕ} {at : Reached} {x s t : List ℕ}
    (g : Going b c room whole x₀ s₀ t₀ i at x s t) where
  counted : length g.feed.times ≡ at.times
  counted = omega (arith, g.filling.rows, flat_times_length g.feed.times)

  -- a reading that ends here
  module _ (z : End) (q : times_from c room (at.times + 2) (lines (drop i b)) g.feed at.last ≡ record { feed = g.feed; end = z }) where
    whole_is : record { feed = g.feed; end = z } ≡ whole
    whole_is = sym q ∙ g.rest

    told : told_at at (ending_of z) ≡ times_told whole
    unfolding times_told
    told =
        let a : at.stops ≡ length g.feed.stops = booked_count g.stops_held in
        let d : at.trips ≡ length g.feed.trips = booked_count g.trips_held in
        rw (← whole_is, a, d, ← counted)

    left : TimesLeft room b whole x₀ s₀ t₀ x s t
    unfolding stops_left trips_left
    left =
        let a : at.stops ≡ length g.feed.stops = booked_count g.stops_held in
        let d : at.trips ≡ length g.feed.trips = booked_count g.trips_held in
        record {
          rows_left = g.filling.held ∙ ap (λ (y : Got). with_bytes x₀ 0 (flat_times y.feed.times)) whole_is;
          stops_left_lem = rw (← whole_is, ← a) g.stops_held;
          trips_left_lem = rw (← whole_is, ← d) g.trips_held;
        }

  -- the lines are at their end
  end_here : length b ≤ i → times_from c room (at.times + 2) (lines (drop i b)) g.feed at.last ≡ record { feed = g.feed; end = done }
  unfolding times_from
  end_here h = rw (drop_of_length-le b h, lines_none)

  pub done_told : length b ≤ i → {r : TimesTold} → r ≡ told_at at (Ok tt) → r ≡ times_told whole
  unfolding ending_of
  done_told h o = o ∙ told done (end_here h)

  pub done_left : length b ≤ i → TimesLeft room b whole x₀ s₀ t₀ x s t
  done_left h = left done (end_here h)

  -- the line's number fits 32 bits
  pub line_fits : i < length b → at.times + 2 ≤ 4_294_967_295
  line_fits h = number_fits g.filling h

  -- the line that begins at i
  module _ {l : TextLine} (m : LineAt b i l) {j : Option TimeSpans} (o : time_read b j ≡ time_line c (part i l.end b)) where
    module _ (n : j ≡ None) where
      no_form : times_from c room (at.times + 2) (lines (drop i b)) g.feed at.last ≡ record { feed = g.feed; end = bad_times (at.times + 2) }
      unfolding time_read
      no_form =
          let q : time_line c (part i l.end b) ≡ None = rw n at (sym o) in
          rw m.parted (time_none c room (at.times + 2) (part i l.end b) (lines (drop l.next b)) g.feed at.last q)

      pub form_told : {r : TimesTold} → r ≡ told_at at (Err (BadLine (at.times + 2))) → r ≡ times_told whole
      unfolding ending_of
      form_told z = z ∙ told (bad_times (at.times + 2)) no_form

      pub form_left : TimesLeft room b whole x₀ s₀ t₀ x s t
      form_left = left (bad_times (at.times + 2)) no_form

    module _ (v : TimeSpans) (n : j ≡ Some v) where
      q : time_line c (part i l.end b) ≡ Some (time_at b v)
      unfolding time_read
      q = rw n at (sym o)

      pub takeable : TimeSpanned b j → Takeable b room at v x s t
      takeable y =
          let w : TimeSpanned b (Some v) = subst (TimeSpanned b) n y in
          record {
            stop_book = g.stops_held.book;
            trip_book = g.trips_held.book;
            stop_text = w.1;
            trip_text = w.0;
            short = g.filling.short;
            rows = omega (arith, filling_length g.filling, g.filling.room);
            small = g.small;
          }

      few : length g.feed.stops ≤ room.stops
      few = omega (arith, booked_count g.stops_held, g.stops_held.book.few)

      right : Plans room (time_at b v) g.feed (take_time room (time_at b v) g.feed at.last) (plan_in b room at v s t)
      unfolding plan_in
      right =
          rw (g.stops_held.texts, g.trips_held.texts)
          (plan_right room (time_at b v) g.feed at few (sym (booked_count g.trips_held)) counted)

      no_plan : plan_in b room at v s t ≡ Err Bad → times_from c room (at.times + 2) (lines (drop i b)) g.feed at.last ≡ record { feed = g.feed; end = bad_times (at.times + 2) }
      no_plan z =
          rw m.parted (time_bad c room (at.times + 2) (part i l.end b) (lines (drop l.next b)) g.feed at.last q (rw z at right))

      no_room : plan_in b room at v s t ≡ Err Full → times_from c room (at.times + 2) (lines (drop i b)) g.feed at.last ≡ record { feed = g.feed; end = full }
      no_room z =
          rw m.parted (time_full c room (at.times + 2) (part i l.end b) (lines (drop l.next b)) g.feed at.last q (rw z at right))

      -- a row that is taken
      entered_on : (e : Numbers) → plan_in b room at v s t ≡ Ok e → {x' s' t' : List ℕ} → LeftBy b room at v (Ok e) x s t x' s' t'
          → Going b c room whole x₀ s₀ t₀ l.next (after_entry at (record { trip = e.trip; stop = e.stop; line = v })) x' s' t'
      unfolding after_entry with_time time_at
      entered_on e z {x'} {s'} {t'} y =
          let w : Plans room (time_at b v) g.feed (take_time room (time_at b v) g.feed at.last) (Ok e) = rw z at right in
          let row : TimeRow = record { trip = e.trip; stop = e.stop; arrival = v.arrival; departure = v.departure } in
          let words = e.trip ∷ e.stop ∷ v.arrival ∷ v.departure ∷ [] in
          record {
            feed = with_time g.feed (time_at b v) e.trip e.stop;
            rest =
                (let line : at.times + 1 + 2 ≡ suc (at.times + 2) = omega arith in
                rw line
                (sym (time_goes c room (at.times + 2) (part i l.end b) (lines (drop l.next b)) g.feed at.last q w.0)
                ∙ ap (λ (ls : List (List ℕ)). times_from c room (at.times + 2) ls g.feed at.last) (sym m.parted)
                ∙ g.rest));
            stops_held = booked_on g.stops_held (rw g.stops_held.texts at y.1) (seen_least at.stops e.stop);
            trips_held = booked_on g.trips_held (rw g.trips_held.texts at y.2) (seen_least at.trips e.trip);
            filling =
                rw (flat_times_append g.feed.times (row ∷ []), row_words row)
                (row_more g.filling m (omega (arith, w.5, counted)) words refl y.0);
            small = g.small;
          }

      -- what became of it
      module _ {r : Result Reached Fault} {x' s' t' : List ℕ} (y : Takes b room at v r x s t x' s' t') where
        of : (p : Result Numbers Fault) → plan_in b room at v s t ≡ p → (r ≡ took_by at v p) × LeftBy b room at v p x s t x' s' t'
        of p z = (y.said ∙ ap (took_by at v) z, subst (λ (p : Result Numbers Fault). LeftBy b room at v p x s t x' s' t') z y.left)

        pub going_on : (at' : Reached) → r ≡ Ok at' → Going b c room whole x₀ s₀ t₀ l.next at' x' s' t'
        unfolding took_by
        going_on at' e = go (plan_in b room at v s t) refl
          where
            go : (p : Result Numbers Fault) → plan_in b room at v s t ≡ p → Going b c room whole x₀ s₀ t₀ l.next at' x' s' t'
            go (Ok n) z =
                let o : Ok at' ≡ Ok (after_entry at (record { trip = n.trip; stop = n.stop; line = v })) = sym e ∙ (of (Ok n) z).0 in
                let a : at' ≡ after_entry at (record { trip = n.trip; stop = n.stop; line = v }) = cc in
                rw a (entered_on n z (of (Ok n) z).1)
            go (Err f) z = let o : Ok at' ≡ Err f = sym e ∙ (of (Err f) z).0 in let n : ◌≡◌ {A = ℕ} 0 1 = cc in absurd (omega arith)

        -- a refusal touches nothing
        ends : (z : End) → times_from c room (at.times + 2) (lines (drop i b)) g.feed at.last ≡ record { feed = g.feed; end = z } → x' ≡ x → s' ≡ s → t' ≡ t
            → TimesLeft room b whole x₀ s₀ t₀ x' s' t'
        ends z o a d e = rw (a, d, e) (left z o)

        is_not : (f : Fault) → r ≡ Err f → (plan_in b room at v s t ≡ Err f) × (x' ≡ x) × (s' ≡ s) × (t' ≡ t)
        unfolding took_by
        is_not f e = go (plan_in b room at v s t) refl
          where
            go : (p : Result Numbers Fault) → plan_in b room at v s t ≡ p → (plan_in b room at v s t ≡ Err f) × (x' ≡ x) × (s' ≡ s) × (t' ≡ t)
            go (Ok n) z =
                let o : Ok (after_entry at (record { trip = n.trip; stop = n.stop; line = v })) ≡ Err f = sym (of (Ok n) z).0 ∙ e in
                let n : ◌≡◌ {A = ℕ} 0 1 = cc in absurd (omega arith)
            go (Err h) z =
                let o : Err h ≡ Err f = sym (of (Err h) z).0 ∙ e in
                let w = (of (Err h) z).1 in
                (cc, w.0, w.1, w.2)

        pub plan_told : (f : Fault) → r ≡ Err f → f ≡ Bad → {o : TimesTold} → o ≡ told_at at (Err (BadLine (at.times + 2))) → o ≡ times_told whole
        unfolding ending_of
        plan_told f e q a = a ∙ told (bad_times (at.times + 2)) (no_plan (is_not Bad (rw q at e)).0)

        pub plan_left : (f : Fault) → r ≡ Err f → f ≡ Bad → TimesLeft room b whole x₀ s₀ t₀ x' s' t'
        plan_left f e q = let w = is_not Bad (rw q at e) in ends (bad_times (at.times + 2)) (no_plan w.0) w.1 w.2 w.3

        pub full_told : (f : Fault) → r ≡ Err f → f ≡ Full → {o : TimesTold} → o ≡ told_at at (Err Filled) → o ≡ times_told whole
        unfolding ending_of
        full_told f e q a = a ∙ told full (no_room (is_not Full (rw q at e)).0)

        pub full_left : (f : Fault) → r ≡ Err f → f ≡ Full → TimesLeft room b whole x₀ s₀ t₀ x' s' t'
        full_left f e q = let w = is_not Full (rw q at e) in ends full (no_room w.0) w.1 w.2 w.3

-- ---- how it begins
pub going_start : {b : List ℕ} {room : Room} {x s t : List ℕ} {from : ℕ} (c : TimesColumns) → TimesRoom room b x s t
    → Book b b (no_names room.stops) s → Book b b (no_names room.trips) t → 1 ≤ from → from ≤ length b + 1
    → Going b c room (times_from c room 2 (lines (drop from b)) empty_feed 0) x s t from (record { stops = 0; trips = 0; times = 0; last = 0 }) x s t
unfolding flat_times flat_by names_in tab
going_start c h k l m n =
    record {
      feed = empty_feed;
      rest = refl;
      stops_held = record { book = k; texts = refl; long = refl; past = refl };
      trips_held = record { book = l; texts = refl; long = refl; past = refl };
      filling = filling_start h.rows m n h.short;
      small = h.small;
    }
